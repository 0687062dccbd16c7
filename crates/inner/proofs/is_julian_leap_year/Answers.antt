-- `inner::is_julian_leap_year` meets its promise.
use mathlib.Core.Path.{◌∙◌, sym, ap}
use mir.Facts.{to_z-of_z}
use Rattle.days.specs.DayByDay.{julian_leap}
use Rattle.inner.specs.Laws.{julian_leap_lem, biased_year}
use Rattle.inner.specs.Natural.{biased_year_value}
use Rattle.inner.proofs.is_julian_leap_year.Goals as goal

pub returns : goal.returns
returns c =
    let x = c.raised.result in
    c.is_julian_leap.ensures ∙ sym (julian_leap_lem (biased_year_value x)) ∙ ap julian_leap (biased_year x ∙ c.raised.ensures ∙ to_z-of_z c.ranges.year)
