-- `walker::on_day` meets its promise.
use borrow.Author.Rules.{rules}
use mathlib.Core.Path.{sym, ◌∙◌, ap, subst}
use lib.IntN.{ℤ}
use mir.Facts.{to_z-of_z}
use mir.Syntax.{w32}
use mir.Val.{to_z}
use Rattle.calendar.specs.Calendars.{IsRecord}
use Rattle.walker.specs.Laws.{is_given}
use Rattle.walker.proofs.on_day.Goals as goal

pub returns-then-jdn-date : goal.returns-then-jdn-date
returns-then-jdn-date c =
    let d = c.args.date in
    let e = sym (to_z-of_z {w = w32} {z = d.jdn} (search rules)) ∙ ap (to_z w32) (sym c.if-jdn-date.true) ∙ to_z-of_z {w = w32} c.ranges.jdn in
    subst (λ (n : ℤ). IsRecord d.calendar n d) e c.requires.is_record

pub returns : goal.returns
returns c = rw c.unwrap_or.ensures (is_given c.requires.accepted (rw (to_z-of_z c.ranges.jdn) at c.at_jdn.ensures) c.args.date)
