-- `reasons::explain` meets its promise.
use mir.Facts.{to_z-of_z}
use mir.Syntax.{w32}
use borrow.Author.Rules.{rules}
use Rattle.calendar.specs.Calendars.{Accepted}
use Rattle.calendar.specs.Laws.{switch_runs, switch_made_up}
use Rattle.reasons.specs.Laws.{is_faulty, is_ordinal, is_ymd, is_month}
use Rattle.reasons.specs.Promise.{Explains}
use Rattle.reasons.proofs.explain.Goals as goal
use Rattle.reasons.proofs.explain.Goals.{After-read_date}

accepted : (c : After-read_date) → Accepted c.args.calendar
accepted c = (switch_runs _ c.in-Ok.ensures).accepted

pub of_fault-requires : goal.of_fault-requires
of_fault-requires c = is_faulty c.in-Err-read_date.ensures

pub of_ordinal-requires : goal.of_ordinal-requires
of_ordinal-requires c = accepted (goal.at.of_ordinal-requires c).After-read_date

pub of_ymd-requires : goal.of_ymd-requires
of_ymd-requires c = (accepted (goal.at.of_ymd-requires c).After-read_date, is_month (rw c.in-Ok-Ymd.field-0-is at c.in-Ok-Ymd.ensures))

pub returns-in-Err : goal.returns-in-Err
returns-in-Err c = Explains.made_up (switch_made_up _ c.in-Err.ensures)

pub returns-in-Err-read_date : goal.returns-in-Err-read_date
returns-in-Err-read_date c = Explains.faulty (accepted (goal.at.returns-in-Err-read_date c).After-read_date) c.of_fault.ensures

pub returns-in-Ok-Ordinal : goal.returns-in-Ok-Ordinal
returns-in-Ok-Ordinal c =
    Explains.by_ordinal (accepted (goal.at.returns-in-Ok-Ordinal c).After-read_date) (is_ordinal (rw c.in-Ok-Ordinal.field-0-is at c.in-Ok-Ordinal.ensures)) (rw (to_z-of_z {w = w32} {z = c.in-Ok-Ordinal.year} (search rules)) at c.of_ordinal.ensures)

pub returns-in-Ok-Ymd : goal.returns-in-Ok-Ymd
returns-in-Ok-Ymd c =
    Explains.by_ymd (accepted (goal.at.returns-in-Ok-Ymd c).After-read_date) (is_ymd (rw c.in-Ok-Ymd.field-0-is at c.in-Ok-Ymd.ensures)) (rw (to_z-of_z {w = w32} {z = c.in-Ok-Ymd.year} (search rules)) at c.of_ymd.ensures)
