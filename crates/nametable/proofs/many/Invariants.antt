-- `nametable::many` meets its promise.
use Rattle.nametable.specs.HashLaws.{Mixing}
use Rattle.std.proofs.Common.{◌-◌, length}
use Rattle.nametable.proofs.many.Given as goal

abbrev pub invariant-loop-i : goal.invariant-loop-i
invariant-loop-i l = Mixing l.s l.h l.i

abbrev pub decreases-loop-i : goal.decreases-loop-i
decreases-loop-i l = length l.s - l.i
