-- `listrun::go_on` meets its promise.
use Rattle.whole.specs.Text.{bytes}
use Rattle.listrun.specs.Promise.{GoesOn, unread, unwritten}
use Rattle.listrun.specs.Laws.{goes}
use Rattle.listrun.proofs.go_on.Goals as goal

pub returns-in-Block : goal.returns-in-Block
returns-in-Block c = goes c.happened.ensures c.in-Block.is (GoesOn.works_on c.advance.ensures)

pub returns-in-InputEnds : goal.returns-in-InputEnds
returns-in-InputEnds c = goes c.happened.ensures c.in-InputEnds.is (GoesOn.last_line c.close.ensures)

pub returns-in-Unread : goal.returns-in-Unread
unfolding unread bytes
returns-in-Unread c = goes c.happened.ensures c.in-Unread.is (GoesOn.cannot_read c.say.ensures)

pub returns-in-Unwritten : goal.returns-in-Unwritten
unfolding unwritten bytes
returns-in-Unwritten c = goes c.happened.ensures c.in-Unwritten.is (GoesOn.cannot_write c.say-in-Unwritten.ensures)

pub returns-in-Finished : goal.returns-in-Finished
returns-in-Finished c = goes c.happened.ensures c.in-Finished.is (rw c.state_with.ensures GoesOn.ends)
