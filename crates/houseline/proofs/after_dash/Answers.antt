-- `houseline::after_dash` meets its promise.
use native.Mathlib.Omega.{arith}
use Rattle.houseline.specs.Laws.{dash_here, dash_other, dash_end}
use Rattle.houseline.proofs.after_dash.Goals.{else-at-line-via-then-at-line+else-line-at-eq45, else-at-line-via-else-at-line}
use Rattle.houseline.proofs.after_dash.Goals as goal

pub returns-then-line-at-eq45 : goal.returns-then-line-at-eq45
returns-then-line-at-eq45 c = (dash_here _ _ c.if-at-line.true c.if-line-at-eq45.true, omega arith)

pub returns : goal.returns
returns c = elim c.else-at-line.branch [
  | else-at-line-via-then-at-line+else-line-at-eq45 w ↦ (dash_other _ _ w.if-at-line.true w.if-line-at-eq45.false, c.requires)
  | else-at-line-via-else-at-line w ↦ (dash_end _ _ w.if-at-line.false, c.requires)
]
