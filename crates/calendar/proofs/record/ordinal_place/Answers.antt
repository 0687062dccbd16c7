-- `calendar::record::ordinal_place` meets its promise.
use mathlib.Core.Path.{◌≡◌, refl}
use native.Mathlib.Omega.{arith}
use Rattle.inner.specs.Laws.{raised_year_biased}
use Rattle.switches.specs.Laws.{year_in_room, year_wholly}
use Rattle.calendar.specs.declared.Style.TheVariants as Style'
use Rattle.calendar.specs.Natural.{IsPlace, plain_place_value, ordinal_at_place}
use Rattle.calendar.specs.Laws.{plain_room, off_low, off_whole, off_span, whole_place, span_old, span_later, turned_place}
use Rattle.calendar.proofs.record.ordinal_place.Goals as goal
use Rattle.calendar.proofs.record.ordinal_place.Goals.{After-spot_at-s-then-past-switch, After-style_at}

whole : (c : After-style_at) → IsPlace c.args.switch c.args.year (plain_place_value c.style_at.result c.spot_at-s.result) × (c.spot_at-s.result.ordinal ≡ c.args.ordinal)
whole c =
    whole_place c.args.year (raised_year_biased c.ranges.year.fits) c.spot_at-s.result c.requires (year_wholly c.year_in-at.ensures c.if-at.true) c.if-ordinal-lt1.false (rw c.days_in_year.ensures at c.if-days_in_year-ordinal.false) c.spot_at-s.ensures c.style_at.ensures

old : (c : After-spot_at-s-then-past-switch) → IsPlace c.args.switch c.args.year (plain_place_value Style'.Julian c.spot_at-s-then-past-switch.result) × (c.spot_at-s-then-past-switch.result.ordinal ≡ c.args.ordinal)
old c =
    span_old c.args.year (raised_year_biased c.ranges.year.fits) c.requires c.year_span-span.ensures c.if-ordinal-lt1.false c.if-span-past.false c.spot_at-s-then-past-switch.result c.if-past-switch.true c.is_julian_leap.ensures c.spot_at-s-then-past-switch.ensures

pub returns-then-ordinal-lt1 : goal.returns-then-ordinal-lt1
returns-then-ordinal-lt1 c =
    rw c.refusal_with.ensures (off_low c.args.year (raised_year_biased c.ranges.year.fits) c.if-ordinal-lt1.true)

pub returns-then-days_in_year-ordinal : goal.returns-then-days_in_year-ordinal
returns-then-days_in_year-ordinal c =
    rw c.refusal_with-then-days_in_year-ordinal.ensures (off_whole c.args.year (raised_year_biased c.ranges.year.fits) (year_wholly c.year_in-at.ensures c.if-at.true) (rw c.days_in_year.ensures at c.if-days_in_year-ordinal.true))

pub overflow_add-biased : goal.overflow_add-biased
overflow_add-biased c = record { fits = omega (arith, year_in_room (raised_year_biased c.ranges.year.fits) c.year_in-at.ensures) }

pub plain_place-requires : goal.plain_place-requires
plain_place-requires c = plain_room c.spot_at-s.result (whole c).0

pub returns-then-at : goal.returns-then-at
returns-then-at c = rw c.plain_place.ensures (ordinal_at_place (whole (goal.at.returns-then-at c).After-style_at).0 (whole (goal.at.returns-then-at c).After-style_at).1)

pub returns-then-span-past : goal.returns-then-span-past
returns-then-span-past c =
    rw c.refusal_with-then-span-past.ensures (off_span c.args.year (raised_year_biased c.ranges.year.fits) c.year_span-span.ensures c.if-ordinal-lt1.false c.if-span-past.true)

pub plain_place-requires-then-past-switch : goal.plain_place-requires-then-past-switch
plain_place-requires-then-past-switch c = plain_room c.spot_at-s-then-past-switch.result (old c).0

pub returns-then-past-switch : goal.returns-then-past-switch
returns-then-past-switch c = rw c.plain_place-then-past-switch.ensures (ordinal_at_place (old (goal.at.returns-then-past-switch c).After-spot_at-s-then-past-switch).0 (old (goal.at.returns-then-past-switch c).After-spot_at-s-then-past-switch).1)

pub turning-t-requires : goal.turning-t-requires
turning-t-requires c = λ e.
    span_later c.args.year (raised_year_biased c.ranges.year.fits) c.requires c.year_span-span.ensures c.if-ordinal-lt1.false c.if-span-past.false c.if-past-switch.false

pub returns : goal.returns
returns c =
    ordinal_at_place (turned_place c.args.year (raised_year_biased c.ranges.year.fits) c.requires c.year_span-span.ensures c.if-ordinal-lt1.false c.if-span-past.false c.if-past-switch.false c.turning-t.ensures) refl
