-- `digits::pair_at` meets its promise: both digits are those at their places.
use Rattle.std.proofs.Common.{arith}
use Rattle.digits.specs.Few.{digit_seen, pair_yes}
use Rattle.digits.proofs.pair_at.Goals as goal

pub overflow_add-at : goal.overflow_add-at
overflow_add-at c = record { fits = omega (arith, (digit_seen _ _ c.digit_at-tens.ensures (omega arith)).within) }

pub returns : goal.returns
returns c = pair_yes _ _ c.digit_at-tens.ensures c.digit_at-ones.ensures (omega arith) (omega arith)
