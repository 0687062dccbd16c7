-- `months::len` meets its promise.
use native.Mathlib.Omega.{arith}
use mir.Facts.{to_z-of_z}
use Rattle.refusals.specs.Passed.{passed_on}
use Rattle.months.specs.Laws.{span_is, span_refused, span_ordered, span_few, len_row}
use Rattle.months.proofs.len.Goals as goal

pub overflow_sub-result : goal.overflow_sub-result
overflow_sub-result c = omega (arith, span_ordered _ _ (span_is (rw (to_z-of_z c.ranges.year) at c.in_ok-s.ensures)))

pub overflow_cast-result : goal.overflow_cast-result
overflow_cast-result c = record { fits = omega (arith, span_few _ _ (span_is (rw (to_z-of_z c.ranges.year) at c.in_ok-s.ensures))) }

pub returns-in_err-s : goal.returns-in_err-s
returns-in_err-s c = rw (passed_on _ c.from_residual.ensures.1) (span_refused (rw (to_z-of_z c.ranges.year) at c.in_err-s.ensures))

pub returns : goal.returns
returns c = len_row _ _ (span_is (rw (to_z-of_z c.ranges.year) at c.in_ok-s.ensures))
