-- `calendar::reform_day` meets its promise.
use borrow.Author.Rules.{rules}
use mathlib.Core.Path.{ap}
use mir.Syntax.{w32}
use mir.Val.{SFits}
use mir.Facts.{to_z-of_z}
use Rattle.calendar.proofs.reform_day.Goals as goal
use Rattle.std.specs.Prelude.{Some}

pub returns-in-Julian : goal.returns-in-Julian
returns-in-Julian c = rw c.in-Julian.is

pub returns-in-Gregorian : goal.returns-in-Gregorian
returns-in-Gregorian c = rw c.in-Gregorian.is

pub returns-in-Reforming : goal.returns-in-Reforming
returns-in-Reforming c = let f : SFits w32 c.in-Reforming.r = search rules in rw c.in-Reforming.is (ap Some (to_z-of_z f))
