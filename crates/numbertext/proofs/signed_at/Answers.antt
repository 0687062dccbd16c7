-- `numbertext::signed_at` meets its promise: at each return the tests that led there say which case holds.
use mathlib.Core.Path.{sym, ap, ◌∙◌}
use Rattle.numbertext.specs.Meaning.{signed_meant}
use Rattle.numbertext.specs.Places.{signed_none, signed_dash, signed_plus, signed_plain, signed_end}
use Rattle.numbertext.proofs.signed_at.Goals as goal
use Rattle.std.specs.Prelude.{Err}

pub returns-then-b-eq45 : goal.returns-then-b-eq45
returns-then-b-eq45 c = signed_meant (c.signed_run.ensures ∙ signed_none _ _ _ c.refusal_at.ensures ∙ sym (signed_dash _ _ c.if-at-s.true c.if-b-eq45.true))

pub returns-then-b-eq43 : goal.returns-then-b-eq43
returns-then-b-eq43 c = signed_meant (c.signed_run-then-b-eq43.ensures ∙ signed_none _ _ _ c.refusal_at-then-b-eq43.ensures ∙ sym (signed_plus _ _ c.if-at-s.true c.if-b-eq45.false c.if-b-eq43.true))

pub returns-then-at-s : goal.returns-then-at-s
returns-then-at-s c = signed_meant (c.signed_run-then-at-s.ensures ∙ signed_none _ _ _ c.byte_refusal.ensures ∙ sym (signed_plain _ _ c.if-at-s.true c.if-b-eq45.false c.if-b-eq43.false))

pub returns : goal.returns
returns c = signed_meant (ap Err c.ended_at.ensures ∙ sym (signed_end _ _ c.if-at-s.false))
