-- `numbertext::dash_at` meets its promise: at each return the tests that led there say which case holds.
use mathlib.Core.Path.{sym, ap, ◌∙◌}
use Rattle.numbertext.specs.Meaning.{dash_meant}
use Rattle.numbertext.specs.Places.{dash_yes, dash_other, dash_end}
use Rattle.numbertext.proofs.dash_at.Goals as goal
use Rattle.std.specs.Prelude.{Err}

pub returns-then-b-eq45 : goal.returns-then-b-eq45
returns-then-b-eq45 c = dash_meant (sym (dash_yes _ _ c.if-at-s.true c.if-b-eq45.true))

pub returns-then-at-s : goal.returns-then-at-s
returns-then-at-s c = dash_meant (ap Err c.byte_refusal.ensures ∙ sym (dash_other _ _ c.if-at-s.true c.if-b-eq45.false))

pub returns : goal.returns
returns c = dash_meant (ap Err c.ended_at.ensures ∙ sym (dash_end _ _ c.if-at-s.false))
