-- `months::nth_date` meets its promise.
use mir.Facts.{to_z-of_z}
use Rattle.refusals.specs.Passed.{passed_on}
use Rattle.months.specs.Laws.{nth_refused, nth_date_row}
use Rattle.months.proofs.nth_date.Goals as goal

pub returns-in_err-day : goal.returns-in_err-day
returns-in_err-day c = rw (passed_on _ c.from_residual.ensures.1) (nth_refused (rw (to_z-of_z c.ranges.year) at c.in_err-day.ensures))

pub returns : goal.returns
returns c =
    nth_date_row (rw (to_z-of_z c.ranges.year) at c.in_ok-day.ensures) (rw (to_z-of_z c.ranges.year) at c.at_ymd.ensures)
