-- `bytesearch::by_eights` meets its promise. The loop's invariant is `Going`: what was passed is without the byte. The measure is what is left before the offset at which fewer than eight bytes are left.
use Rattle.bytesearch.specs.Laws.{Going}
use Prim.Native.Nat.{◌-◌}
use Rattle.bytesearch.proofs.by_eights.Given as goal

abbrev pub invariant-loop-i : goal.invariant-loop-i
invariant-loop-i l = Going l.b l.s l.from l.i

abbrev pub decreases-loop-i : goal.decreases-loop-i
decreases-loop-i l = l.end - l.i
