-- `inner::named_days` meets its promise.
use Rattle.days.proofs.KnownDays.{named_days}
use Rattle.inner.proofs.named_days.Goals as goal

pub returns : goal.returns
returns c = named_days
