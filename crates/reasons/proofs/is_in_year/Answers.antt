-- `reasons::is_in_year` meets its promise.
use Rattle.reasons.specs.Laws.{year_fault}
use Rattle.reasons.proofs.is_in_year.Goals as goal

pub returns : goal.returns
returns c = rw c.is_err.ensures.value (year_fault _ c.signed_at.ensures)
