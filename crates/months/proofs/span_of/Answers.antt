-- `months::span_of` meets its promise.
use mathlib.Core.Path.{◌∙◌}
use mir.Facts.{to_z-of_z}
use Rattle.inner.specs.Laws.{biased_year, raised_year_biased}
use Rattle.refusals.specs.Passed.{passed_on}
use Rattle.calendar.specs.Laws.{switch_runs}
use Rattle.months.specs.Laws.{span_made, span_made_up}
use Rattle.months.proofs.span_of.Goals as goal

pub returns-in_err-switch : goal.returns-in_err-switch
returns-in_err-switch c = rw (passed_on _ c.from_residual.ensures.1) (span_made_up _ c.in_err-switch.ensures)

pub returns : goal.returns
returns c =
    span_made _ (switch_runs _ c.in_ok-switch.ensures) (raised_year_biased c.raised.type_inv) (biased_year c.raised.result ∙ c.raised.ensures ∙ to_z-of_z c.ranges.year) c.month_span.ensures
