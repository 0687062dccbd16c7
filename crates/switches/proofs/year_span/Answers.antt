-- `switches::year_span` meets its promise.
use mathlib.Core.Bool.{Bool}
use mathlib.Core.Path.{◌∙◌, ap}
use Rattle.days.specs.ClosedYear.{year_length}
use Rattle.inner.specs.Laws.{raised_year_biased}
use Rattle.inner.specs.Natural.{biased_year_value}
use Rattle.switches.specs.Laws.{year_span_is}
use Rattle.switches.proofs.year_span.Goals as goal

pub returns : goal.returns
returns c =
    year_span_is c.args.switch (biased_year_value c.args.year) (raised_year_biased c.ranges.year.fits).to c.julian_start-julian.ensures c.gregorian_start-gregorian.ensures
    (c.days_in_year-julian_days.ensures ∙ ap (λ (b : Bool). year_length b) c.is_julian_leap.ensures) (c.days_in_year-gregorian_days.ensures ∙ ap (λ (b : Bool). year_length b) c.is_gregorian_leap.ensures)
    c.first_day.ensures c.first_day-2.ensures
