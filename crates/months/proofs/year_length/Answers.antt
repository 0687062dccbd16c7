-- `months::year_length` meets its promise.
use mathlib.Core.Path.{◌∙◌}
use native.Mathlib.Omega.{arith}
use mir.Facts.{to_z-of_z}
use Rattle.inner.specs.Laws.{biased_year, raised_year_biased}
use Rattle.refusals.specs.Passed.{passed_on}
use Rattle.calendar.specs.Laws.{switch_runs, no_switch}
use Rattle.months.specs.Laws.{year_row, year_ordered, year_few}
use Rattle.months.proofs.year_length.Goals as goal

pub overflow_sub-result : goal.overflow_sub-result
overflow_sub-result c = year_ordered c.args.calendar (switch_runs _ c.in_ok-switch.ensures) (raised_year_biased c.raised.type_inv) (biased_year c.raised.result ∙ c.raised.ensures ∙ to_z-of_z c.ranges.year) c.year_span-span.ensures

pub overflow_cast-result : goal.overflow_cast-result
overflow_cast-result c = record { fits = omega (arith, year_few c.args.calendar (switch_runs _ c.in_ok-switch.ensures) (raised_year_biased c.raised.type_inv) (biased_year c.raised.result ∙ c.raised.ensures ∙ to_z-of_z c.ranges.year) c.year_span-span.ensures) }

pub returns-in_err-switch : goal.returns-in_err-switch
returns-in_err-switch c = rw (passed_on _ c.from_residual.ensures.1) (no_switch _ c.in_err-switch.ensures)

pub returns : goal.returns
returns c = year_row c.args.calendar (switch_runs _ c.in_ok-switch.ensures) (raised_year_biased c.raised.type_inv) (biased_year c.raised.result ∙ c.raised.ensures ∙ to_z-of_z c.ranges.year) c.year_span-span.ensures
