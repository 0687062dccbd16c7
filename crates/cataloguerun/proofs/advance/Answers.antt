-- `cataloguerun::advance` meets its promise.
use Rattle.cataloguerun.specs.Promise.{Advances}
use Rattle.cataloguerun.specs.Laws.{reads_in}
use Rattle.cataloguerun.proofs.advance.Goals as goal

pub returns-in-Ok : goal.returns-in-Ok
returns-in-Ok c = Advances.reads (reads_in c.front.ensures (rw c.in-Ok.is at c.read_block.ensures))

pub returns-in-Err : goal.returns-in-Err
returns-in-Err c = Advances.refuses (reads_in c.front.ensures (rw c.in-Err.is at c.read_block.ensures))
