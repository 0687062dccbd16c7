-- `ncal::named` meets its promise.
use Rattle.ncal.specs.Laws.{named_as}
use Rattle.ncal.proofs.named.Goals as goal

pub returns : goal.returns
returns c = rw (c.ok_or.ensures.value, c.refusal_of.ensures) (named_as c.look_up.ensures)
