-- `calendar::record::turned_label` meets its promise.
use Prim.Native.Nat.{◌+◌, ◌-◌, ◌<◌, ◌≤◌}
use native.Mathlib.Omega.{arith}
use Rattle.inner.specs.Laws.{raised_year_biased}
use Rattle.calendar.specs.Natural.{OnSpot}
use Rattle.calendar.specs.Laws.{labelled_room, reads_new, reads_room, turned_none, turned_gap, turned_at}
use Rattle.calendar.proofs.record.turned_label.Goals as goal
use Rattle.calendar.proofs.record.turned_label.Goals.{After-first_day-first}

spot_is : (c : After-first_day-first) → OnSpot c.args.switch c.in-Some.s
spot_is c =
    reads_new (raised_year_biased c.ranges.year.fits) c.is_gregorian_leap.ensures c.gregorian_start-start.ensures c.in-Some.ensures c.if-s-switch.false

room : (c : After-first_day-first) → (c.first_day-first.result ≤ c.in-Some.s.biased) × (c.in-Some.s.biased + 1 - c.first_day-first.result < 4_294_967_296)
room c =
    reads_room (raised_year_biased c.ranges.year.fits) c.is_gregorian_leap.ensures c.gregorian_start-start.ensures c.in-Some.ensures c.if-s-switch.false c.julian_start.ensures c.first_day-first.ensures

pub returns-then-s-switch : goal.returns-then-s-switch
returns-then-s-switch c =
    turned_gap (raised_year_biased c.ranges.year.fits) c.is_gregorian_leap.ensures c.gregorian_start-start.ensures c.in-Some.ensures c.if-s-switch.true

pub overflow_add-result : goal.overflow_add-result
overflow_add-result c = record { fits = omega (arith, labelled_room (spot_is (goal.at.overflow_add-result c).After-first_day-first)) }

pub overflow_sub-result : goal.overflow_sub-result
overflow_sub-result c = omega (arith, (room (goal.at.overflow_sub-result c).After-first_day-first).0)

pub overflow_mul-result : goal.overflow_mul-result
overflow_mul-result c = record { fits = omega (arith, (room (goal.at.overflow_mul-result c).After-first_day-first).1) }

pub month_place-requires : goal.month_place-requires
month_place-requires c = (spot_is (goal.at.month_place-requires c).After-first_day-first, c.if-s-switch.false)

pub overflow_add-result-in-Some : goal.overflow_add-result-in-Some
overflow_add-result-in-Some c = record { fits = omega (arith, (room (goal.at.overflow_add-result-in-Some c).After-first_day-first).1, c.month_place.ensures.0) }

pub returns-in-None : goal.returns-in-None
returns-in-None c =
    turned_none (raised_year_biased c.ranges.year.fits) c.is_gregorian_leap.ensures c.gregorian_start-start.ensures c.in-None.ensures c.non_gregorian_refusal.ensures

pub returns-else-s-switch : goal.returns-else-s-switch
returns-else-s-switch c =
    turned_at (raised_year_biased c.ranges.year.fits) c.is_gregorian_leap.ensures c.gregorian_start-start.ensures c.in-Some.ensures c.if-s-switch.false c.julian_start.ensures c.first_day-first.ensures c.month_place.ensures.0 c.month_place.ensures.1
