-- `inner::whole_parts` meets its promise: the parts are counted in quarters of a day.
use native.Mathlib.Omega.{arith}
use Rattle.days.proofs.ClosedCenturies.{counted_in_quarters}
use Rattle.inner.proofs.whole_parts.Goals as goal

pub returns : goal.returns
returns c = counted_in_quarters (omega arith) (omega arith)
