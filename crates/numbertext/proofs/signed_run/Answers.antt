-- `numbertext::signed_run` meets its promise: the magnitude that the run tells is in the range, so that `whole::signed` brings it into 32 bits.
use mathlib.Core.Path.{refl, sym, ap}
use Rattle.std.specs.Prelude.{Err}
use Rattle.numbertext.specs.Places.{signed_as, signed_over, signed_value, never_outside}
use Rattle.numbertext.proofs.signed_run.Goals as goal

pub returns-in-Ok-signed : goal.returns-in-Ok-signed
returns-in-Ok-signed c = signed_value _ _ _ _ c.limit.ensures c.in-Ok.ensures refl c.in-Ok-signed.ensures refl

pub returns-in-Err : goal.returns-in-Err
returns-in-Err c = never_outside _ _ _ _ c.limit.ensures c.in-Ok.ensures refl c.in-Err.ensures refl

pub returns-in-Err-Over : goal.returns-in-Err-Over
returns-in-Err-Over c = signed_over _ _ _ _ c.limit.ensures c.in-Err-Over.ensures (ap Err c.in-Err-Over.field-0-is) c.way_out.ensures c.refusal_at.ensures

pub returns-in-Err-Empty : goal.returns-in-Err-Empty
returns-in-Err-Empty c = sym (signed_as _ _ _ _ c.limit.ensures c.in-Err-Empty.ensures (ap Err c.in-Err-Empty.field-0-is))
