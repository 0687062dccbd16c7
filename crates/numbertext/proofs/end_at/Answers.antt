-- `numbertext::end_at` meets its promise: at each return the tests that led there say which case holds.
use mathlib.Core.Path.{sym, ap, ◌∙◌}
use Rattle.numbertext.specs.Meaning.{end_meant}
use Rattle.numbertext.specs.Places.{end_over, end_past, end_reached}
use Rattle.numbertext.proofs.end_at.Goals as goal
use Rattle.std.specs.Prelude.{Err}

pub returns-then-s-at : goal.returns-then-s-at
returns-then-s-at c = end_meant (ap Err c.refusal_at.ensures ∙ sym (end_past _ _ c.if-s-at.true))

pub returns-then-s-at-2 : goal.returns-then-s-at-2
returns-then-s-at-2 c = end_meant (sym (end_reached _ _ c.if-s-at.false c.if-s-at-2.true))

pub returns : goal.returns
returns c = end_meant (ap Err c.byte_refusal.ensures ∙ sym (end_over _ _ c.if-s-at-2.false))
