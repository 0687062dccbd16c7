-- `calendar::from_0` meets its promise.
use mathlib.Core.Path.{ap}
use Rattle.calendar.specs.Calendars.{Genuine}
use Rattle.calendar.specs.Rows.{refuses, passes}
use Rattle.calendar.proofs.from_0.Goals as goal
use Rattle.calendar.proofs.from_0.Goals.{Else-is_genuine, Then-is_genuine}
use Rattle.std.specs.Prelude.{Ok}

genuine : (c : Then-is_genuine) → Genuine c.args.date
genuine c = rw c.if-is_genuine.true at c.is_genuine.ensures

made_up : (c : Else-is_genuine) → ¬ Genuine c.args.date
made_up c = rw c.if-is_genuine.false at c.is_genuine.ensures

pub returns-then-is_genuine : goal.returns-then-is_genuine
returns-then-is_genuine c = passes (genuine (goal.at.returns-then-is_genuine c).Then-is_genuine) (ap Ok c.one_less.ensures)

pub returns : goal.returns
returns c = rw c.made_up.ensures (refuses (made_up (goal.at.returns c).Else-is_genuine))
