-- `calendar::ahead` meets its promise.
use mathlib.Core.Path.{subst}
use lib.IntN.{ℤ}
use Rattle.ways.specs.Laws.{ahead_is}
use Rattle.ways.specs.Promise.{goes_later_value}
use Rattle.calendar.specs.InMonth.{near_next}
use Rattle.calendar.specs.Promise.{Next}
use Rattle.calendar.proofs.ahead.Goals as goal
use Rattle.std.specs.Prelude.{Ok}

pub returns-in-Some : goal.returns-in-Some
returns-in-Some c =
    subst (λ (n : ℤ). Next c.args.date n (Ok c.in-Some.next)) (ahead_is c.args.way c.args.date.jdn)
    (near_next (goes_later_value c.args.way) (rw c.goes_later.ensures at c.in-Some.ensures))
