-- `commatext::run_end` meets its promise. The loop's invariant is `Along`; the measure is what is left of the bytes.
use Prim.Native.Nat.{◌-◌}
use Rattle.commatext.specs.Private.{Along}
use Rattle.commatext.proofs.run_end.Given as goal

abbrev pub invariant-loop-i : goal.invariant-loop-i
invariant-loop-i l = Along l.quoted l.s l.from l.i

abbrev pub decreases-loop-i : goal.decreases-loop-i
decreases-loop-i l = l.limit - l.i
