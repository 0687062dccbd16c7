-- `digits::run_ends` meets its promise: the test is that of `ends_of`.
use Rattle.std.proofs.Common.{sym, eq-eqb, ne_eqb}
use Rattle.digits.specs.Runs.{pick_yes, pick_no}
use Rattle.digits.proofs.run_ends.Goals as goal

pub returns-then-i-at : goal.returns-then-i-at
returns-then-i-at c = sym (pick_yes _ _ (eq-eqb _ _ c.if-i-at.true))

pub returns-else-i-at : goal.returns-else-i-at
returns-else-i-at c = sym (pick_no _ _ (ne_eqb _ _ c.if-i-at.false))
