-- `calendar::is_usual_date` meets its promise.
use borrow.Author.Rules.{rules}
use mathlib.Core.Path.{◌∙◌}
use native.Mathlib.Omega.{arith}
use mir.Syntax.{w32}
use mir.Val.{SFits}
use mir.Facts.{to_z-of_z}
use Rattle.inner.specs.Laws.{biased_year, raised_year_biased}
use Rattle.switches.specs.Laws.{year_in_room, year_wholly}
use Rattle.calendar.specs.Laws.{switch_runs, switch_made_up}
use Rattle.calendar.specs.InMonth.{none_genuine, usual_by, not_whole}
use Rattle.calendar.proofs.is_usual_date.Goals as goal

pub overflow_add-at : goal.overflow_add-at
overflow_add-at c = record { fits = omega (arith, year_in_room (raised_year_biased c.raised.type_inv) c.year_in-at.ensures) }

pub returns-in-None : goal.returns-in-None
returns-in-None c =
    let f : SFits w32 c.args.date.year = search rules in
    λ g. none_genuine c.args.date c.raised.result (switch_runs _ c.in-Ok.ensures) (raised_year_biased c.raised.type_inv) (biased_year c.raised.result ∙ c.raised.ensures ∙ to_z-of_z f) (year_wholly c.year_in-at.ensures c.if-at.true)
    c.in-None.ensures g.0

pub returns-in-Some : goal.returns-in-Some
returns-in-Some c =
    let f : SFits w32 c.args.date.year = search rules in
    let e = biased_year c.raised.result ∙ c.raised.ensures ∙ to_z-of_z f in
    usual_by c.args.date c.raised.result (switch_runs _ c.in-Ok.ensures) (raised_year_biased c.raised.type_inv) e (year_wholly c.year_in-at.ensures c.if-at.true)
    c.in-Some.ensures
    (record { switch = c.in-Ok.switch; biased_year = c.raised.result; at = c.year_in-at.result; runs = switch_runs _ c.in-Ok.ensures; year_is = e; year_in = c.year_in-at.ensures; wholly = c.if-at.true })
    c.is_on.result c.is_on.ensures

pub returns-in-Err : goal.returns-in-Err
returns-in-Err c = λ g. switch_made_up _ c.in-Err.ensures g.0.accepted

pub returns-else-at : goal.returns-else-at
returns-else-at c =
    let f : SFits w32 c.args.date.year = search rules in
    λ g. not_whole c.args.date c.raised.result (switch_runs _ c.in-Ok.ensures) (biased_year c.raised.result ∙ c.raised.ensures ∙ to_z-of_z f) c.year_in-at.ensures c.if-at.false g.1
