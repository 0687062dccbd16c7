-- `inner::julian2jdn` meets its promise.
use mathlib.Core.Path.{◌∙◌}
use mir.Facts.{to_z-of_z}
use Rattle.inner.specs.Laws.{julian_alone, ordinal_answer, raised_year_biased, biased_year}
use Rattle.inner.proofs.julian2jdn.Goals as goal

pub returns : goal.returns
returns c =
    ordinal_answer julian_alone (raised_year_biased c.raised-y.type_inv) (biased_year c.raised-y.result ∙ c.raised-y.ensures ∙ to_z-of_z c.ranges.year)
    c.is_julian_leap.ensures c.julian_start.ensures c.ordinal_number.ensures
