-- `bytesearch::in_four` meets its promise: `first` tells the place among the four.
use Rattle.std.proofs.Common.{◌≡◌, ◌+◌, ◌-◌, ℕ, ap, take, drop, arith}
use Rattle.bytesearch.specs.Laws.{in_four_place}
use Rattle.bytesearch.proofs.in_four.Goals as goal

four : (at : ℕ) → at + 4 - at ≡ 4
four at = omega arith

pub returns : goal.returns
returns c = in_four_place c.args.s.now c.args.at (ap (λ (n : ℕ). take n (drop c.args.at c.args.s.now)) (four c.args.at)) c.requires (cc)
