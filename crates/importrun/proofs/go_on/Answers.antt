-- `importrun::go_on` meets its promise.
use Rattle.whole.specs.Text.{bytes}
use Rattle.importrun.specs.Promise.{unread, unwritten, GoesOn}
use Rattle.importrun.specs.Laws.{goes}
use Rattle.importrun.proofs.go_on.Goals as goal

pub returns-in-Block : goal.returns-in-Block
returns-in-Block c = goes c.happened.ensures c.in-Block.is (GoesOn.works_on (rw (c.later_place-all.ensures, c.kept-front.ensures) at c.advance.ensures))

pub returns-in-InputEnds : goal.returns-in-InputEnds
returns-in-InputEnds c = goes c.happened.ensures c.in-InputEnds.is (GoesOn.last_record (rw c.kept-front.ensures at c.advance-in-InputEnds.ensures))

pub returns-in-Unread : goal.returns-in-Unread
unfolding unread bytes
returns-in-Unread c = goes c.happened.ensures c.in-Unread.is (rw c.run_with.ensures (GoesOn.cannot_read c.say.ensures))

pub returns-in-Unwritten : goal.returns-in-Unwritten
unfolding unwritten bytes
returns-in-Unwritten c = goes c.happened.ensures c.in-Unwritten.is (rw c.run_with-in-Unwritten.ensures (GoesOn.cannot_write c.say-in-Unwritten.ensures))

pub returns-in-Finished : goal.returns-in-Finished
returns-in-Finished c = goes c.happened.ensures c.in-Finished.is (rw (c.run_with-in-Finished.ensures, c.state_with.ensures) GoesOn.ends)
