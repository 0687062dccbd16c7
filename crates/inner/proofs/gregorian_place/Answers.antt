-- `inner::gregorian_place` meets its promise.
use Prim.Native.Nat.{ℕ, ◌+◌, ◌-◌, ◌/◌, ◌%◌, ◌<◌, ◌^◌}
use native.Mathlib.Omega.{arith}
use Rattle.days.proofs.ClosedGregorian as G
use Rattle.days.specs.BiasedDays.{BiasedYear}
use Rattle.days.specs.ClosedStarts.{InYear}
use Rattle.days.proofs.ClosedCenturies.{days_in_common_year, days_in_century, days_in_cycle, first_cycle, WholeParts, year_after, by_the_rule}
use Rattle.days.proofs.ClosedRange.{gregorian_year}
use Rattle.inner.specs.Natural.{biased_day}
use Rattle.inner.specs.Laws.{raised_day_biased, spot_again}
use Rattle.inner.proofs.gregorian_place.Goals as goal

-- the year and ordinal of a raised day, and that the year has 32 bits
module _ {x centuries of_century years of_year_lem : ℕ} (h : x < 2 ^ 32)
    (c : WholeParts days_in_century ((biased_day x - first_cycle) % days_in_cycle) centuries of_century) (y : WholeParts days_in_common_year of_century years of_year_lem) where
  spot : InYear G.leap_at G.start (biased_day x) (year_after ((biased_day x - first_cycle) / days_in_cycle) centuries years) (of_year_lem + 1)
  spot = by_the_rule (biased_day x) ((biased_day x - first_cycle) / days_in_cycle) (omega arith) (omega arith) c y

  biased : BiasedYear (year_after ((biased_day x - first_cycle) / days_in_cycle) centuries years)
  biased = gregorian_year (raised_day_biased h) spot

pub overflow_add-years_before-2 : goal.overflow_add-years_before-2
overflow_add-years_before-2 c = omega (arith, biased c.ranges.day.fits c.whole_parts-centuries.ensures c.whole_parts-years.ensures)

pub overflow_add-result : goal.overflow_add-result
overflow_add-result c = omega (arith, biased c.ranges.day.fits c.whole_parts-centuries.ensures c.whole_parts-years.ensures)

pub overflow_cast-result : goal.overflow_cast-result
overflow_cast-result c = omega (arith, biased c.ranges.day.fits c.whole_parts-centuries.ensures c.whole_parts-years.ensures)

pub returns : goal.returns
returns c =
    let h = c.ranges.day.fits in
    let p = c.whole_parts-centuries.ensures in
    let q = c.whole_parts-years.ensures in
    spot_again (biased h p q) (spot h p q)
