-- `explainrun::answer` meets its promise.
use Rattle.linerun.specs.Laws.{answer_written}
use Rattle.explainrun.proofs.answer.Goals as goal

pub returns-in-Ok : goal.returns-in-Ok
returns-in-Ok c = answer_written c.in-Ok.ensures c.with_output.ensures
