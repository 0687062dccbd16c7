-- `swedish::find` meets its promise, row by row.
use native.Mathlib.Omega.{arith}
use Rattle.inner.specs.Natural.{biased_year_value}
use Rattle.inner.specs.Laws.{raised_year_biased}
use Rattle.swedish.specs.Promise.{finds}
use Rattle.swedish.specs.Laws.{month_room, on_day, in_year, refused_row, no_month_row, no_day_row}
use Rattle.swedish.proofs.find.Goals as goal
use Rattle.swedish.proofs.find.Goals.{then-month-lt1-via-then-month-lt1, then-month-lt1-via-else-month-lt1+then-month-gt12, then-month-lt1-via-else-month-lt1+else-month-gt12+then-day-lt1}

pub returns-then-month-lt1 : goal.returns-then-month-lt1
returns-then-month-lt1 c = rw c.refusal_with.ensures (elim c.then-month-lt1.branch [
  | then-month-lt1-via-then-month-lt1 w ↦ no_month_row c.args.year c.args.month c.args.day (λ v. omega (arith, v.0, w.if-month-lt1.true))
  | then-month-lt1-via-else-month-lt1+then-month-gt12 w ↦ no_month_row c.args.year c.args.month c.args.day (λ v. omega (arith, v.1, w.if-month-gt12.true))
  | then-month-lt1-via-else-month-lt1+else-month-gt12+then-day-lt1 w ↦ no_day_row c.args.year c.args.month c.args.day w.if-day-lt1.true
])

pub overflow_add-biased : goal.overflow_add-biased
overflow_add-biased c =
    let room = month_room (biased_year_value c.args.year) c.args.month (c.if-month-lt1.false, c.if-month-gt12.false) (raised_year_biased c.ranges.year.fits) c.days_of-m.ensures in
    record { fits = omega (arith, room, c.ranges.day.fits) }

pub overflow_sub-result : goal.overflow_sub-result
overflow_sub-result c =
    let y = biased_year_value c.args.year in
    let b = raised_year_biased c.ranges.year.fits in
    let l = on_day y c.args.month c.args.day b (c.if-month-lt1.false, c.if-month-gt12.false) c.days_of-m.ensures c.if-day-lt1.false c.if-biased-m.true in
    omega (arith, (in_year y b _ l c.days_of-january.ensures).1)

pub overflow_cast-result : goal.overflow_cast-result
overflow_cast-result c =
    let y = biased_year_value c.args.year in
    let b = raised_year_biased c.ranges.year.fits in
    let l = on_day y c.args.month c.args.day b (c.if-month-lt1.false, c.if-month-gt12.false) c.days_of-m.ensures c.if-day-lt1.false c.if-biased-m.true in
    record { fits = omega (arith, (in_year y b _ l c.days_of-january.ensures).2) }

pub returns-then-biased-m : goal.returns-then-biased-m
returns-then-biased-m c =
    let y = biased_year_value c.args.year in
    let b = raised_year_biased c.ranges.year.fits in
    let l = on_day y c.args.month c.args.day b (c.if-month-lt1.false, c.if-month-gt12.false) c.days_of-m.ensures c.if-day-lt1.false c.if-biased-m.true in
    finds l (in_year y b _ l c.days_of-january.ensures).0

pub returns : goal.returns
returns c =
    rw c.refusal_with-2.ensures (refused_row c.args.year c.args.month c.args.day c.refusal_number.result (raised_year_biased c.ranges.year.fits) (c.if-month-lt1.false, c.if-month-gt12.false) c.days_of-m.ensures c.if-day-lt1.false
    c.if-biased-m.false c.refusal_number.ensures)
