-- `linerun::next` meets its promise.
use Rattle.linerun.specs.Promise.{NextTurn}
use Rattle.linerun.specs.Laws.{turns}
use Rattle.linerun.proofs.next.Goals as goal

pub returns-in-Block : goal.returns-in-Block
returns-in-Block c = turns c.happened.ensures c.in-Block.is (NextTurn.works_on c.advance.ensures)

pub returns-in-InputEnds : goal.returns-in-InputEnds
returns-in-InputEnds c = turns c.happened.ensures c.in-InputEnds.is (rw c.last_turn.ensures NextTurn.last_line)

pub returns-in-Unread : goal.returns-in-Unread
returns-in-Unread c = turns c.happened.ensures c.in-Unread.is (NextTurn.cannot_read)

pub returns-in-Unwritten : goal.returns-in-Unwritten
returns-in-Unwritten c = turns c.happened.ensures c.in-Unwritten.is (NextTurn.cannot_write)

pub returns-in-Finished : goal.returns-in-Finished
returns-in-Finished c = turns c.happened.ensures c.in-Finished.is (rw c.state_with.ensures NextTurn.ends)
