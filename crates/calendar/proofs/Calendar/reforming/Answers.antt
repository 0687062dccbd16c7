-- `calendar::Calendar::reforming` meets its promise.
use mathlib.Core.Path.{sym, subst}
use lib.IntN.{ℤ}
use mir.Syntax.{w64}
use mir.Val.{SFits}
use mir.Facts.{to_z-of_z}
use Rattle.switches.specs.Promise.{Judges}
use Rattle.calendar.specs.Laws.{reforms_accepted, reforms_refused}
use Rattle.calendar.specs.Promise.{Reforms}
use Rattle.calendar.specs.declared.Calendar.TheVariants as Calendar'
use Rattle.calendar.proofs.Calendar.reforming.Goals as goal
use Rattle.std.specs.Prelude.{Ok, Err}

pub returns-in-Ok : goal.returns-in-Ok
returns-in-Ok c =
    subst (λ (z : ℤ). Reforms c.args.r (Ok (Calendar'.Reforming z))) (sym (to_z-of_z c.ranges.r))
    (reforms_accepted (subst (λ (r : ℤ). Judges r (Ok c.in-Ok.field-0)) (to_z-of_z c.ranges.r) c.in-Ok.ensures))

pub returns-in-Err : goal.returns-in-Err
returns-in-Err c =
    let f : SFits w64 c.widened.result = record { sfits = c.widened.type_inv } in
    rw (c.refusal_of.ensures, c.number.ensures, to_z-of_z f, c.widened.ensures, to_z-of_z c.ranges.r)
    (reforms_refused (subst (λ (r : ℤ). Judges r (Err c.in-Err.why)) (to_z-of_z c.ranges.r) c.in-Err.ensures))
