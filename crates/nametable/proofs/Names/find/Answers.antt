-- `nametable::Names::find` meets its promise.
use Rattle.nametable.specs.Laws.{finds_lost, finds_walk}
use Rattle.nametable.specs.Promise.{too_long}
use Rattle.nametable.proofs.Names.find.Goals as goal

pub returns-then-name-gt-NAME : goal.returns-then-name-gt-NAME
returns-then-name-gt-NAME c = too_long c.if-name-gt-NAME.true

pub returns-then-from-gt-LINES : goal.returns-then-from-gt-LINES
returns-then-from-gt-LINES c = finds_lost _ _ c.if-name-gt-NAME.false c.bucket_of-chain.ensures.0 c.place-from.ensures c.if-from-gt-LINES.true

pub returns : goal.returns
returns c = finds_walk _ _ c.if-name-gt-NAME.false c.bucket_of-chain.ensures.0 c.place-from.ensures c.if-from-gt-LINES.false c.walk.ensures
