-- `importrun::advance` meets its promise.
use Rattle.importrun.specs.Laws.{turn_ended, turn_full, turn_read, turn_spent}
use Rattle.importrun.proofs.advance.Goals as goal

pub returns-then-ends : goal.returns-then-ends
returns-then-ends c = turn_read c.front.ensures c.import_text-p.ensures c.in-Spent.is c.if-ends.true c.state_with-then-ends.ensures c.run_with-then-ends.ensures

pub returns-in-Ended : goal.returns-in-Ended
returns-in-Ended c = turn_ended c.front.ensures c.import_text-p.ensures c.in-Ended.is c.state_with.ensures c.run_with.ensures

pub returns-in-Full : goal.returns-in-Full
returns-in-Full c = turn_full c.front.ensures c.import_text-p.ensures c.in-Full.is c.state_at.ensures c.run_with-in-Full.ensures

pub returns-else-ends : goal.returns-else-ends
returns-else-ends c = turn_spent c.front.ensures c.import_text-p.ensures c.in-Spent.is c.if-ends.false c.min.ensures c.keep-held.ensures c.state_at-in-Spent.ensures c.later_place.ensures c.run_with-in-Spent.ensures
