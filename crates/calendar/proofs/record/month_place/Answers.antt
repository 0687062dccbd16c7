-- `calendar::record::month_place` meets its promise.
use native.Mathlib.Omega.{arith}
use Rattle.calendar.specs.Laws.{labelled_room, labelled_new, month_room}
use Rattle.calendar.proofs.record.month_place.Goals as goal

pub overflow_add-past : goal.overflow_add-past
overflow_add-past c = record { fits = omega (arith, labelled_room c.requires.0) }

pub julian_month-requires : goal.julian_month-requires
julian_month-requires c = let a = labelled_new c.requires.0 c.requires.1 in (a.there.0, a.there.1)

pub overflow_sub-past : goal.overflow_sub-past
overflow_sub-past c = (labelled_room c.requires.0).4

pub overflow_sub-result : goal.overflow_sub-result
overflow_sub-result c = (month_room c.args.s c.requires.0 c.requires.1 c.julian_month.ensures c.first_day-first.ensures).0

pub returns : goal.returns
returns c =
    let (x, y, z) = month_room c.args.s c.requires.0 c.requires.1 c.julian_month.ensures c.first_day-first.ensures in
    (y, z)
