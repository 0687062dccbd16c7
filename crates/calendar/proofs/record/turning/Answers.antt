-- `calendar::record::turning` meets its promise.
use native.Mathlib.Omega.{arith}
use Rattle.calendar.specs.Laws.{turning_ordinal, turning_label}
use Rattle.calendar.proofs.record.turning.Goals as goal

pub turned_ordinal-requires : goal.turned_ordinal-requires
turned_ordinal-requires c = c.requires c.if-month-eq0.true

pub returns-then-month-eq0 : goal.returns-then-month-eq0
returns-then-month-eq0 c = turning_ordinal c.args.month c.if-month-eq0.true c.turned_ordinal.ensures

pub returns : goal.returns
returns c = turning_label c.args.month (omega (arith, c.if-month-eq0.false)) c.turned_label.ensures
