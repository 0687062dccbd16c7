-- `inner::jdn2julian` meets its promise.
use Rattle.days.proofs.ClosedRange.{julian_year}
use mathlib.Core.Path.{◌∙◌, sym}
use mir.Syntax.{w32}
use mir.Facts.{to_z-of_z}
use Rattle.inner.specs.Laws.{julian_alone, spot_year_and_ordinal, raised_day_biased, biased_day_lem, biased_year}
use Rattle.inner.proofs.jdn2julian.Goals as goal

pub returns : goal.returns
returns c =
    let x = c.raised.result in
    let p = c.julian_place-place.ensures in
    spot_year_and_ordinal julian_alone (julian_year (raised_day_biased c.raised.type_inv) p) p
    (biased_day_lem x ∙ c.raised.ensures ∙ to_z-of_z c.ranges.jdn)
    (biased_year c.julian_place-place.result.year ∙ sym c.lowered.ensures ∙ sym (to_z-of_z {w = w32} (record { sfits = c.lowered.type_inv })))
