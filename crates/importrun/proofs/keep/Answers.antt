-- `importrun::keep` meets its promise.
use Rattle.importrun.specs.Laws.{keeps_none, keeping}
use Rattle.importrun.proofs.keep.Goals as goal

pub returns-then-end-at : goal.returns-then-end-at
returns-then-end-at c = keeps_none _ c.if-end-at.true

pub returns : goal.returns
returns c = keeping _ _ _ c.requires c.if-end-at.false c.copy_within.ensures.after
