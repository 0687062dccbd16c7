-- `inner::gregorian2jdn` meets its promise.
use mathlib.Core.Path.{◌∙◌}
use mir.Facts.{to_z-of_z}
use Rattle.inner.specs.Laws.{gregorian_alone, ordinal_answer, raised_year_biased, biased_year}
use Rattle.inner.proofs.gregorian2jdn.Goals as goal

pub returns : goal.returns
returns c =
    ordinal_answer gregorian_alone (raised_year_biased c.raised-y.type_inv) (biased_year c.raised-y.result ∙ c.raised-y.ensures ∙ to_z-of_z c.ranges.year)
    c.is_gregorian_leap.ensures c.gregorian_start.ensures c.ordinal_number.ensures
