-- `importrun::start` meets its promise.
use Rattle.importrun.specs.Promise.{Starts}
use Rattle.importrun.proofs.start.Goals as goal

pub returns : goal.returns
returns c = rw c.run_with.ensures (Starts.starts c.start.ensures)
