-- `numbertext::ended_at` meets its promise: the test is that of `ended_at_value`.
use mathlib.Core.Path.{sym, ◌∙◌}
use borrow.Author.Tests.{lt-ltb, le-ltb}
use Rattle.digits.specs.Runs.{pick_yes, pick_no}
use Rattle.numbertext.proofs.ended_at.Goals as goal

pub returns-then-s-at : goal.returns-then-s-at
returns-then-s-at c = c.refusal_at.ensures ∙ sym (pick_yes _ _ (lt-ltb _ _ c.if-s-at.true))

pub returns : goal.returns
returns c = c.refusal_at-2.ensures ∙ sym (pick_no _ _ (le-ltb _ _ c.if-s-at.false))
