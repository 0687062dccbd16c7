-- `calendar::Calendar::reformation` meets its promise.
use Rattle.refusals.specs.Passed.{passed_on}
use Rattle.calendar.specs.Laws.{switch_runs, no_switch}
use Rattle.calendar.specs.Rows.{passes}
use mathlib.Core.Path.{ap}
use Rattle.std.specs.Prelude.{Ok}
use Rattle.calendar.proofs.Calendar.reformation.Goals as goal

pub returns-in_err-switch_of : goal.returns-in_err-switch_of
returns-in_err-switch_of c = rw (passed_on _ c.from_residual.ensures.1) (no_switch _ c.in_err-switch_of.ensures)

pub returns : goal.returns
returns c = passes (switch_runs _ c.in_ok-switch_of.ensures).accepted (ap Ok c.reform_day.ensures)
