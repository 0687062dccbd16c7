-- `calendar::Calendar::at_ymd` meets its promise.
use Rattle.refusals.specs.Passed.{passed_on}
use mir.Facts.{to_z-of_z}
use Rattle.calendar.specs.Laws.{switch_runs, no_switch}
use Rattle.calendar.proofs.Calendar.at_ymd.Goals as goal

pub on_label-requires : goal.on_label-requires
on_label-requires c = switch_runs _ c.in_ok-switch.ensures

pub returns-in_err-switch : goal.returns-in_err-switch
returns-in_err-switch c = rw (passed_on _ c.from_residual.ensures.1) (no_switch _ c.in_err-switch.ensures)

pub returns : goal.returns
returns c = rw (to_z-of_z c.ranges.year) at c.on_label.ensures
