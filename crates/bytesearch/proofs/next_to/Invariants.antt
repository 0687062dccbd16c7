-- `bytesearch::next_to` meets its promise. The loop's invariant is `Going`: what was passed is without the byte. The measure is what is left of the slice.
use Rattle.bytesearch.specs.Laws.{Going}
use Prim.Native.Nat.{◌-◌}
use lib.ListN.{length}
use Rattle.bytesearch.proofs.next_to.Given as goal

abbrev pub invariant-loop-i : goal.invariant-loop-i
invariant-loop-i l = Going l.b l.s l.from l.i

abbrev pub decreases-loop-i : goal.decreases-loop-i
decreases-loop-i l = length l.s - l.i
