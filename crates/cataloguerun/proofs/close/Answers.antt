-- `cataloguerun::close` meets its promise.
use Rattle.cataloguerun.specs.Promise.{Closes}
use Rattle.cataloguerun.proofs.close.Goals as goal

pub returns-in-Ok : goal.returns-in-Ok
returns-in-Ok c = Closes.closes (rw c.in-Ok.is at c.read_last.ensures)

pub returns-in-Err : goal.returns-in-Err
returns-in-Err c = Closes.refuses (rw c.in-Err.is at c.read_last.ensures)
