-- `expected::expected_after` meets its promise.
use Rattle.std.specs.Prelude.{Ok}
use mathlib.Core.Path.{subst}
use Rattle.datetext.specs.Promise.{ReadDate}
use Rattle.datetext.specs.declared.Text.{Text}
use Rattle.expected.specs.Faults.{ordinal_expects, ymd_expects, refused_says}
use Rattle.expected.proofs.expected_after.Goals as goal

pub after_fault-requires : goal.after_fault-requires
after_fault-requires c = refused_says c.in-Err.ensures

pub returns-in-Ok-Ordinal : goal.returns-in-Ok-Ordinal
returns-in-Ok-Ordinal c =
    rw c.after_number.ensures
    (ordinal_expects (subst (λ (t : Text). ReadDate c.args.front.now (Ok t)) c.in-Ok-Ordinal.field-0-is c.in-Ok-Ordinal.ensures) c.is_month.result c.is_month.ensures)

pub returns-in-Ok-Ymd : goal.returns-in-Ok-Ymd
returns-in-Ok-Ymd c =
    rw c.after_number-in-Ok-Ymd.ensures
    (ymd_expects (subst (λ (t : Text). ReadDate c.args.front.now (Ok t)) c.in-Ok-Ymd.field-0-is c.in-Ok-Ymd.ensures))
