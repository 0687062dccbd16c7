-- `calendar::Calendar::at_ordinal_date` meets its promise.
use Rattle.refusals.specs.Passed.{passed_on}
use mir.Facts.{to_z-of_z}
use Rattle.calendar.specs.Laws.{switch_runs, no_switch}
use Rattle.calendar.proofs.Calendar.at_ordinal_date.Goals as goal

pub on_ordinal-requires : goal.on_ordinal-requires
on_ordinal-requires c = switch_runs _ c.in_ok-switch.ensures

pub returns-in_err-switch : goal.returns-in_err-switch
returns-in_err-switch c = rw (passed_on _ c.from_residual.ensures.1) (no_switch _ c.in_err-switch.ensures)

pub returns : goal.returns
returns c = rw (to_z-of_z c.ranges.year) at c.on_ordinal.ensures
