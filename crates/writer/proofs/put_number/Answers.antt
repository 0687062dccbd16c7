-- `writer::put_number` meets its promise.
use Rattle.writer.specs.Laws.{as_number}
use Rattle.writer.proofs.put_number.Goals as goal

pub returns : goal.returns
returns c = as_number c.put_at.ensures
