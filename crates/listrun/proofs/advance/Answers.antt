-- `listrun::advance` meets its promise.
use Rattle.listrun.specs.Laws.{stays_within, uses_up}
use Rattle.listrun.proofs.advance.Goals as goal

pub returns-then-p-count : goal.returns-then-p-count
returns-then-p-count c = stays_within c.front.ensures c.list_block-p.ensures c.if-p-count.true c.state_at.ensures

pub returns : goal.returns
returns c = uses_up c.front.ensures c.list_block-p.ensures c.if-p-count.false c.state_at-2.ensures
