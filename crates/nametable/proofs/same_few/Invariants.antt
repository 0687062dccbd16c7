-- `nametable::same_few` meets its promise.
use Rattle.nametable.specs.Words.{Passed}
use Rattle.nametable.proofs.same_few.Given as goal

abbrev pub invariant-loop-i : goal.invariant-loop-i
invariant-loop-i l = Passed l.name l.slots l.from l.i
