-- `unixtime::at_unix_time` meets its promise.
use borrow.Author.Rules.{rules}
use mir.Syntax.{w32}
use mir.Facts.{to_z-of_z}
use Rattle.refusals.specs.Passed.{passed_on}
use Rattle.calendar.specs.Laws.{switch_runs, switch_made_up}
use Rattle.calendar.specs.Rows.{refuses}
use Rattle.unixtime.specs.Laws.{timed_refused, timed_row}
use Rattle.calendar.specs.Theorems.{never_refused}
use Rattle.unixtime.proofs.at_unix_time.Goals as goal

pub returns-in-Err : goal.returns-in-Err
returns-in-Err c = rw c.refusal_of.ensures (refuses (switch_made_up _ (rw c.in-Err.is at c.switch_of.ensures)))

pub returns-in_err-jdn : goal.returns-in_err-jdn
returns-in_err-jdn c =
    rw (passed_on _ c.from_residual.ensures.1)
    (timed_refused _ (switch_runs _ (rw c.in-Ok.is at c.switch_of.ensures)).accepted (rw (to_z-of_z c.ranges.t) at c.in_err-jdn.ensures))

pub returns-in_err-date : goal.returns-in_err-date
returns-in_err-date c = absurd (never_refused (switch_runs _ (rw c.in-Ok.is at c.switch_of.ensures)).accepted c.in_err-date.ensures)

pub returns : goal.returns
returns c =
    timed_row _ (switch_runs _ (rw c.in-Ok.is at c.switch_of.ensures)).accepted (rw (to_z-of_z c.ranges.t) at c.in_ok-jdn.ensures)
    (rw (to_z-of_z {w = w32} {z = c.in_ok-jdn.jdn} (search rules)) at c.in_ok-date.ensures)
