-- `calendar::switch_of` meets its promise, variant by variant.
use borrow.Author.Rules.{rules}
use mathlib.Core.Path.{sym, subst}
use lib.IntN.{ℤ}
use mir.Syntax.{w32}
use mir.Val.{SFits}
use mir.Facts.{to_z-of_z}
use Rattle.days.proofs.ClosedRuns.{julian_runs, gregorian_runs}
use Rattle.switches.specs.Promise.{Judges}
use Rattle.calendar.specs.Laws.{switch_accepted, switch_refused}
use Rattle.calendar.specs.Promise.{made_up}
use Rattle.calendar.specs.Natural.{SwitchIs, switches_at}
use Rattle.calendar.specs.declared.Calendar.{Calendar}
use Rattle.calendar.proofs.switch_of.Goals as goal
use Rattle.std.specs.Prelude.{Ok, Err}

pub returns-in-Julian : goal.returns-in-Julian
returns-in-Julian c = subst (λ (x : Calendar). SwitchIs x (Ok 4_000_000_000_000)) (sym c.in-Julian.is) (switches_at julian_runs)

pub returns-in-Gregorian : goal.returns-in-Gregorian
returns-in-Gregorian c = subst (λ (x : Calendar). SwitchIs x (Ok 0)) (sym c.in-Gregorian.is) (switches_at gregorian_runs)

pub returns-in-Ok : goal.returns-in-Ok
returns-in-Ok c =
    let f : SFits w32 c.in-Reforming.r = search rules in
    subst (λ (x : Calendar). SwitchIs x (Ok c.in-Ok.day)) (sym c.in-Reforming.is)
    (switch_accepted (subst (λ (r : ℤ). Judges r (Ok c.in-Ok.day)) (to_z-of_z f) c.in-Ok.ensures))

pub returns-in-Err : goal.returns-in-Err
returns-in-Err c =
    let f : SFits w32 c.in-Reforming.r = search rules in
    rw c.made_up.ensures (subst (λ (x : Calendar). SwitchIs x (Err made_up)) (sym c.in-Reforming.is)
    (switch_refused (subst (λ (r : ℤ). Judges r (Err c.in-Err.field-0)) (to_z-of_z f) c.in-Err.ensures)))
