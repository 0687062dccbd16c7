-- `benchsum::added` meets its promise.
use Rattle.benchsum.specs.Promise.{Adds}
use Rattle.benchsum.proofs.added.Goals as goal

pub returns-in-Ok : goal.returns-in-Ok
returns-in-Ok c = rw (c.in-Ok.is, c.plus.ensures) (Adds.date c.fields.result c.fields.ensures)

pub returns-in-Err : goal.returns-in-Err
returns-in-Err c = rw (c.in-Err.is, c.plus-in-Err.ensures) Adds.refusal
