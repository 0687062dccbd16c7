-- `expected::after_number` meets its promise.
use Prim.Native.Nat.{ℕ}
use mathlib.Core.Path.{ap}
use mathlib.Core.Bool.{true, false}
use Rattle.expected.specs.Fronts.{expects}
use Rattle.expected.proofs.after_number.Goals as goal

pub returns : goal.returns
returns c = ap (λ (k : ℕ). expects k c.args.dash false true) c.digits_left.ensures
