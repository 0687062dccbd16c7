-- `explainrun::put_held` meets its promise.
use native.Mathlib.Omega.{arith}
use Rattle.explainrun.specs.Laws.{held_short, held_long}
use Rattle.explainrun.proofs.put_held.Goals as goal

pub returns-then-short : goal.returns-then-short
returns-then-short c = held_short (omega (arith, c.if-short.true)) c.explain_line.ensures

pub returns : goal.returns
returns c = held_long (omega (arith, c.if-short.false)) c.explain_too_long.ensures
