use Prim.{Unit}
use Rattle.std.proofs.Common.{◌-◌, length}
use Rattle.import_known.proofs.answer_texts.Given as goal

abbrev pub invariant-loop-at : goal.invariant-loop-at
invariant-loop-at l = Unit

abbrev pub decreases-loop-at : goal.decreases-loop-at
decreases-loop-at l = length l.input - l.at
