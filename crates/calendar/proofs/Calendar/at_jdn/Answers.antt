-- `calendar::Calendar::at_jdn` meets its promise.
use Rattle.refusals.specs.Passed.{passed_on}
use mir.Facts.{to_z-of_z}
use Rattle.calendar.specs.Laws.{switch_runs, no_switch}
use Rattle.calendar.specs.Promise.{record_of}
use Rattle.calendar.specs.Rows.{passes}
use Rattle.calendar.proofs.Calendar.at_jdn.Goals as goal

pub on_day-requires : goal.on_day-requires
on_day-requires c = switch_runs _ c.in_ok-switch.ensures

pub returns-in_err-switch : goal.returns-in_err-switch
returns-in_err-switch c = rw (passed_on _ c.from_residual.ensures.1) (no_switch _ c.in_err-switch.ensures)

pub returns : goal.returns
returns c = passes (switch_runs _ c.in_ok-switch.ensures).accepted (record_of (rw (to_z-of_z c.ranges.jdn) at c.on_day.ensures))
