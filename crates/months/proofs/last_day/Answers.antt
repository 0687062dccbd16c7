-- `months::last_day` meets its promise.
use native.Mathlib.Omega.{arith}
use mir.Facts.{to_z-of_z}
use Rattle.refusals.specs.Passed.{passed_on}
use Rattle.months.specs.Laws.{span_is, span_refused, last_none, last_row, inside}
use Rattle.months.proofs.last_day.Goals as goal

pub returns-then-s : goal.returns-then-s
returns-then-s c = last_none _ _ (span_is (rw (to_z-of_z c.ranges.year) at c.in_ok-s.ensures)) c.if-s.true

pub day_in-requires : goal.day_in-requires
day_in-requires c = inside _ _ (span_is (rw (to_z-of_z c.ranges.year) at c.in_ok-s.ensures)) _ (omega (arith, c.if-s.false)) (omega (arith, c.if-s.false))

pub returns-in_err-s : goal.returns-in_err-s
returns-in_err-s c = rw (passed_on _ c.from_residual.ensures.1) (span_refused (rw (to_z-of_z c.ranges.year) at c.in_err-s.ensures))

pub returns : goal.returns
returns c = last_row _ _ (span_is (rw (to_z-of_z c.ranges.year) at c.in_ok-s.ensures)) c.if-s.false c.day_in.ensures
