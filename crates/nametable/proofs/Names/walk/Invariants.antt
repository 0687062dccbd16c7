-- `nametable::Names::walk` meets its promise.
use Rattle.nametable.specs.Laws.{Walking}
use Rattle.nametable.proofs.Names.walk.Given as goal

abbrev pub invariant-loop-at : goal.invariant-loop-at
invariant-loop-at l = Walking l.self l.name l.from l.at

abbrev pub decreases-loop-at : goal.decreases-loop-at
decreases-loop-at l = l.at
