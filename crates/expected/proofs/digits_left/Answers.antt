-- `expected::digits_left` meets its promise.
use Rattle.expected.specs.Numbers.{left_none, left_ten, left_fewer}
use mathlib.Core.Path.{◌∙◌}
use native.Mathlib.Omega.{arith}
use Rattle.expected.proofs.digits_left.Goals as goal

pub returns-then-limit-next : goal.returns-then-limit-next
returns-then-limit-next c = left_none c.args.limit c.args.n c.if-limit-next.true

pub returns-then-left-gt10 : goal.returns-then-left-gt10
returns-then-left-gt10 c = left_ten c.args.limit c.args.n (omega (arith, c.if-limit-next.false)) (omega (arith, c.if-limit-next.false, c.if-left-gt10.true))

pub returns : goal.returns
returns c = omega (arith, c.if-limit-next.false) ∙ left_fewer c.args.limit c.args.n (omega (arith, c.if-limit-next.false)) (omega (arith, c.if-limit-next.false, c.if-left-gt10.false))
