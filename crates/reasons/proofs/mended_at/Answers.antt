-- `reasons::mended_at` meets its promise.
use native.Mathlib.Omega.{arith}
use Rattle.reasons.specs.Laws.{mended_ten, mended_else}
use Rattle.reasons.proofs.mended_at.Goals as goal

pub overflow_add-result : goal.overflow_add-result
overflow_add-result c = omega (arith, c.requires c.if-number-eq10.true)

pub returns-then-number-eq10 : goal.returns-then-number-eq10
returns-then-number-eq10 c = mended_ten c.args.number c.args.place c.if-number-eq10.true

pub returns : goal.returns
returns c = mended_else c.args.number c.args.place c.if-number-eq10.false
