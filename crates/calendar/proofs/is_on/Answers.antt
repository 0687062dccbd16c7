-- `calendar::is_on` meets its promise, number by number.
use borrow.Author.Rules.{rules}
use mathlib.Core.Path.{◌∙◌}
use mir.Syntax.{w32}
use mir.Val.{SFits}
use mir.Facts.{to_z-of_z}
use Rattle.calendar.specs.InMonth.{on_day, on_by}
use Rattle.calendar.proofs.is_on.Goals as goal

pub returns-then-date-ordinal : goal.returns-then-date-ordinal
returns-then-date-ordinal c = λ q. c.if-date-ordinal.true q.ordinal_is

pub returns-then-date : goal.returns-then-date
returns-then-date c = λ q. c.if-date.true q.day_ordinal_is

pub returns-then-today-past : goal.returns-then-today-past
returns-then-today-past c =
    let f : SFits w32 c.args.date.jdn = search rules in
    λ q. c.if-today-past.true (on_day c.args.date c.args.switch c.raised.result c.args.past (c.raised.ensures ∙ to_z-of_z f) q)

pub returns : goal.returns
returns c =
    let f : SFits w32 c.args.date.jdn = search rules in
    rw (c.style_number.ensures, c.style_number-2.ensures, c.style_at.ensures)
    (on_by c.args.date c.args.switch c.raised.result c.args.past (c.raised.ensures ∙ to_z-of_z f) c.if-date-ordinal.false c.if-date.false c.if-today-past.false)
