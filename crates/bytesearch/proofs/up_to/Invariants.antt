-- `bytesearch::up_to` meets its promise. The loop's invariant is `Going`, as in `by_eights`.
use Rattle.bytesearch.specs.Laws.{Going}
use Prim.Native.Nat.{◌-◌}
use Rattle.bytesearch.proofs.up_to.Given as goal

abbrev pub invariant-loop-i : goal.invariant-loop-i
invariant-loop-i l = Going l.b l.s l.from l.i

abbrev pub decreases-loop-i : goal.decreases-loop-i
decreases-loop-i l = l.end - l.i
