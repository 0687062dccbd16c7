-- `inner::decompose_julian` meets its promise.
use Rattle.inner.specs.Laws.{by_quarters}
use Rattle.inner.proofs.decompose_julian.Goals as goal

pub returns : goal.returns
returns c = by_quarters c.args.days
