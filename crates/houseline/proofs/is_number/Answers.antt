-- `houseline::is_number` meets its promise.
use Rattle.houseline.specs.Laws.{written_by}
use Rattle.houseline.proofs.is_number.Goals as goal

pub returns : goal.returns
returns c = written_by c.only_digits.result c.after_dash.ensures.0 c.only_digits.ensures
