-- `numbertext::number_at` meets its promise: at each return the tests that led there say which case holds.
use mathlib.Core.Path.{refl, sym, ap, ◌∙◌}
use native.Mathlib.Omega.{arith}
use Rattle.numbertext.specs.Meaning.{number_meant}
use Rattle.digits.specs.Runs.{run_within}
use Rattle.numbertext.specs.Places.{number_value, number_over, number_other, number_end}
use Rattle.numbertext.proofs.number_at.Goals as goal
use Rattle.std.specs.Prelude.{Err}

pub overflow_cast-result : goal.overflow_cast-result
overflow_cast-result c = omega (arith, run_within _ _ _ (sym c.in-Ok.ensures))

pub returns-in-Ok : goal.returns-in-Ok
returns-in-Ok c = number_meant (sym (number_value _ _ c.in-Ok.ensures refl))

pub returns-in-Err-Over : goal.returns-in-Err-Over
returns-in-Err-Over c = number_meant (ap Err c.refusal_at.ensures ∙ sym (number_over _ _ c.in-Err-Over.ensures (ap Err c.in-Err-Over.field-0-is)))

pub returns-in-Err-Empty : goal.returns-in-Err-Empty
returns-in-Err-Empty c = number_meant (ap Err c.byte_refusal.ensures ∙ sym (number_other _ _ c.in-Err-Empty.ensures (ap Err c.in-Err-Empty.field-0-is) c.if-at-s.true))

pub returns-in-Err-Empty-2 : goal.returns-in-Err-Empty-2
returns-in-Err-Empty-2 c = number_meant (ap Err c.ended_at.ensures ∙ sym (number_end _ _ c.if-at-s.false))
