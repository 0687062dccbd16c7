-- `calendar::record::turned_ordinal` meets its promise.
use mathlib.Core.Path.{◌≡◌, ◌∙◌, ap₂}
use Prim.Native.Nat.{◌+◌, ◌-◌, ◌≤◌, ◌<◌, ◌^◌}
use native.Mathlib.Omega.{arith}
use Rattle.days.specs.ClosedRuns.{top, first_day_value, year_first}
use Rattle.inner.specs.Laws.{raised_year_biased}
use Rattle.inner.specs.Natural.{biased_year_value}
use Rattle.calendar.specs.Natural.{OnSpot}
use Rattle.calendar.specs.Laws.{labelled_new, month_few, later_room, later_spot, turned_day}
use Rattle.calendar.proofs.record.turned_ordinal.Goals as goal
use Rattle.calendar.proofs.record.turned_ordinal.Goals.{After-first_day-first, After-spot_at-s}

first_is : (c : After-first_day-first) → c.first_day-first.result ≡ year_first c.args.switch (biased_year_value c.args.year)
first_is c = c.first_day-first.ensures ∙ ap₂ (first_day_value c.args.switch) c.julian_start.ensures c.gregorian_start-start.ensures

room : (c : After-first_day-first)
    → (c.first_day-first.result + c.args.ordinal < top) × (c.gregorian_start-start.result ≤ c.first_day-first.result + c.args.ordinal)
    × (c.first_day-first.result + c.args.ordinal - c.gregorian_start-start.result < 2 ^ 32) × (1 ≤ c.first_day-first.result + c.args.ordinal - c.gregorian_start-start.result)
room c = later_room c.args.year (raised_year_biased c.ranges.year.fits) c.requires (first_is c) c.gregorian_start-start.ensures

on : (c : After-spot_at-s) → OnSpot c.args.switch c.spot_at-s.result × (c.args.switch ≤ c.spot_at-s.result.biased)
on c =
    later_spot c.args.year (raised_year_biased c.ranges.year.fits) c.requires (c.first_day-first.ensures ∙ ap₂ (first_day_value c.args.switch) c.julian_start.ensures c.gregorian_start-start.ensures) c.gregorian_start-start.ensures c.spot_at-s.result c.is_gregorian_leap.ensures c.spot_at-s.ensures

pub overflow_add-past : goal.overflow_add-past
overflow_add-past c = record { fits = omega (arith, (room c).0) }

pub overflow_sub-past-2 : goal.overflow_sub-past-2
overflow_sub-past-2 c = (room c).1

pub overflow_cast-past-2 : goal.overflow_cast-past-2
overflow_cast-past-2 c = record { fits = (room c).2 }

pub spot_at-s-requires : goal.spot_at-s-requires
spot_at-s-requires c = (room (goal.at.spot_at-s-requires c).After-first_day-first).3

pub overflow_mul-result-2 : goal.overflow_mul-result-2
overflow_mul-result-2 c =
    let (l, h) = on (goal.at.overflow_mul-result-2 c).After-spot_at-s in
    let a = labelled_new l h in
    record { fits = omega (arith, a.there.1, month_few a) }

pub month_place-requires : goal.month_place-requires
month_place-requires c = on (goal.at.month_place-requires c).After-spot_at-s

pub overflow_add-result-2 : goal.overflow_add-result-2
overflow_add-result-2 c =
    let (l, h) = on (goal.at.overflow_add-result-2 c).After-spot_at-s in
    let a = labelled_new l h in
    record { fits = omega (arith, a.there.1, month_few a, c.month_place.ensures.0) }

pub returns : goal.returns
returns c =
    turned_day c.args.year (raised_year_biased c.ranges.year.fits) c.requires (c.first_day-first.ensures ∙ ap₂ (first_day_value c.args.switch) c.julian_start.ensures c.gregorian_start-start.ensures) c.gregorian_start-start.ensures c.spot_at-s.result c.is_gregorian_leap.ensures c.spot_at-s.ensures c.month_place.ensures.0 c.month_place.ensures.1
