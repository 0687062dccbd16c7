-- `walker::gave` meets its promise.
use borrow.Author.Rules.{rules}
use mir.Facts.{to_z-of_z}
use mir.Syntax.{w32}
use Rattle.calendar.specs.Calendars.{IsRecord}
use Rattle.walker.specs.Private.{gave}
use Rattle.calendar.specs.Theorems.{record_genuine}
use Rattle.walker.proofs.gave.Goals as goal
use Rattle.walker.proofs.gave.Goals.{After-on_day-given}

given : (c : After-on_day-given) → IsRecord c.args.date.calendar c.args.step.given c.on_day-given.result
given c = rw (to_z-of_z {w = w32} {z = c.args.step.given} (search rules)) at c.on_day-given.ensures

pub on_day-held-requires : goal.on_day-held-requires
on_day-held-requires c = record_genuine c.requires.accepted (given (goal.at.on_day-held-requires c).After-on_day-given)

pub returns : goal.returns
returns c =
    let g = given (goal.at.returns c).After-on_day-given in
    gave g (rw (g.calendar_is, to_z-of_z {w = w32} {z = c.args.step.held} (search rules)) at c.on_day-held.ensures)
