-- `linerun::advance` meets its promise.
use Rattle.linerun.specs.Laws.{advances, advances_none}
use Rattle.linerun.proofs.advance.Goals as goal

pub returns-then-from-part : goal.returns-then-from-part
returns-then-from-part c = advances c.front-part.ensures c.if-from-part.true c.take_next.ensures

pub returns : goal.returns
returns c = advances_none c.front-part.ensures c.if-from-part.false c.state_at.ensures
