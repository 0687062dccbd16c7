-- `months::nth_day` meets its promise.
use native.Mathlib.Omega.{arith}
use mir.Facts.{to_z-of_z}
use Rattle.refusals.specs.Passed.{passed_on}
use Rattle.months.specs.Laws.{span_is, span_refused, span_room, span_ordered, off_low, off_high, nth_row, inside}
use Rattle.months.proofs.nth_day.Goals as goal

pub returns-then-k-lt1 : goal.returns-then-k-lt1
returns-then-k-lt1 c = rw c.refusal_with.ensures (off_low _ _ (span_is (rw (to_z-of_z c.ranges.year) at c.in_ok-s.ensures)) _ c.if-k-lt1.true)

pub overflow_add-biased : goal.overflow_add-biased
overflow_add-biased c = record { fits = omega (arith, span_room _ _ (span_is (rw (to_z-of_z c.ranges.year) at c.in_ok-s.ensures)), span_ordered _ _ (span_is (rw (to_z-of_z c.ranges.year) at c.in_ok-s.ensures))) }

pub returns-then-s-biased : goal.returns-then-s-biased
returns-then-s-biased c = rw c.refusal_with-then-s-biased.ensures (off_high _ _ (span_is (rw (to_z-of_z c.ranges.year) at c.in_ok-s.ensures)) _ c.if-s-biased.true c.if-k-lt1.false)

pub day_in-requires : goal.day_in-requires
day_in-requires c = inside _ _ (span_is (rw (to_z-of_z c.ranges.year) at c.in_ok-s.ensures)) _ (omega (arith, c.if-k-lt1.false)) c.if-s-biased.false

pub returns-in_err-s : goal.returns-in_err-s
returns-in_err-s c = rw (passed_on _ c.from_residual.ensures.1) (span_refused (rw (to_z-of_z c.ranges.year) at c.in_err-s.ensures))

pub returns : goal.returns
returns c = nth_row _ _ (span_is (rw (to_z-of_z c.ranges.year) at c.in_ok-s.ensures)) _ c.if-k-lt1.false c.if-s-biased.false c.day_in.ensures
