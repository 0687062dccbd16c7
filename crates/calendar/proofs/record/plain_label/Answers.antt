-- `calendar::record::plain_label` meets its promise.
use Rattle.inner.specs.Laws.{raised_year_biased}
use Rattle.calendar.specs.Laws.{plain_room, early_old, early_new, old_none, new_none, later_none, later_late, later_new}
use Rattle.calendar.proofs.record.plain_label.Goals as goal

pub returns-then-old-switch-2 : goal.returns-then-old-switch-2
returns-then-old-switch-2 c =
    rw c.refusal_with.ensures (old_none c.args.year (raised_year_biased c.ranges.year.fits) c.is_julian_leap.ensures c.julian_start-old.ensures c.in-None.ensures c.if-old-switch-2.true)

pub plain_place-requires : goal.plain_place-requires
plain_place-requires c =
    plain_room c.in-Some.s (early_old c.args.year (raised_year_biased c.ranges.year.fits) c.requires c.is_julian_leap.ensures c.julian_start-old.ensures
    c.in-Some.ensures c.if-s-switch.true).0

pub returns-then-s-switch : goal.returns-then-s-switch
returns-then-s-switch c =
    rw c.plain_place.ensures (early_old c.args.year (raised_year_biased c.ranges.year.fits) c.requires c.is_julian_leap.ensures c.julian_start-old.ensures
    c.in-Some.ensures c.if-s-switch.true)

pub returns-else-old-switch-2 : goal.returns-else-old-switch-2
returns-else-old-switch-2 c =
    later_none c.args.year (raised_year_biased c.ranges.year.fits) c.is_julian_leap.ensures c.julian_start-old.ensures c.if-old-switch.true c.in-None.ensures

pub returns-else-s-switch : goal.returns-else-s-switch
returns-else-s-switch c =
    later_late c.args.year (raised_year_biased c.ranges.year.fits) c.is_julian_leap.ensures c.julian_start-old.ensures c.if-old-switch.true c.in-Some.ensures c.if-s-switch.false

pub plain_place-requires-in-Some-reading : goal.plain_place-requires-in-Some-reading
plain_place-requires-in-Some-reading c =
    plain_room c.in-Some-reading.s (early_new c.args.year (raised_year_biased c.ranges.year.fits) c.requires c.is_gregorian_leap.ensures c.gregorian_start-new.ensures
    c.in-Some-reading.ensures c.if-switch-new.true).0

pub returns-in-None-reading : goal.returns-in-None-reading
returns-in-None-reading c =
    rw c.refusal_with-in-None-reading.ensures (new_none c.args.year (raised_year_biased c.ranges.year.fits) c.is_gregorian_leap.ensures c.gregorian_start-new.ensures c.in-None-reading.ensures
    c.julian_start-old.ensures c.if-old-switch.false c.if-switch-new.true)

pub returns-in-Some-reading : goal.returns-in-Some-reading
returns-in-Some-reading c =
    rw c.plain_place-in-Some-reading.ensures (early_new c.args.year (raised_year_biased c.ranges.year.fits) c.requires c.is_gregorian_leap.ensures c.gregorian_start-new.ensures
    c.in-Some-reading.ensures c.if-switch-new.true)

pub returns : goal.returns
returns c =
    later_new c.args.year c.julian_start-old.ensures c.if-old-switch.false c.gregorian_start-new.ensures c.if-switch-new.false
