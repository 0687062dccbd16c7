-- `cataloguerun::go_on` meets its promise. A read comes to bytes, to the end of the file or to nothing; the other events are not its own.
use Rattle.cataloguerun.specs.Promise.{GoesOn}
use Rattle.cataloguerun.specs.Laws.{goes, stays}
use Rattle.cataloguerun.proofs.go_on.Goals as goal

pub returns-in_default : goal.returns-in_default
returns-in_default c = stays _ c.in_default.not-Reading

pub returns-in-Block : goal.returns-in-Block
returns-in-Block c = goes c.in-Reading.is c.arrived.ensures c.in-Block.is (GoesOn.some c.advance.ensures)

pub returns-in-InputEnds : goal.returns-in-InputEnds
returns-in-InputEnds c = goes c.in-Reading.is c.arrived.ensures c.in-InputEnds.is (GoesOn.no_more c.close.ensures)

pub returns-in-Unread : goal.returns-in-Unread
returns-in-Unread c = goes c.in-Reading.is c.arrived.ensures c.in-Unread.is GoesOn.failed
