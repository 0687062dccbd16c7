-- `digits::run_at` meets its promise. The loop's invariant is `Along`: what is still to come takes the number and the place to those of the
-- whole run. The measure is what is left of the slice.
use Rattle.std.proofs.Common.{◌-◌, length}
use Rattle.digits.specs.Runs.{Along}
use Rattle.digits.proofs.run_at.Given as goal

abbrev pub invariant-loop-i : goal.invariant-loop-i
invariant-loop-i l = Along l.s l.at l.limit l.n l.i

abbrev pub decreases-loop-i : goal.decreases-loop-i
decreases-loop-i l = length l.s - l.i
