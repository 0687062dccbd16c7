-- `inner::jdn2gregorian` meets its promise.
use Rattle.days.proofs.ClosedRange.{gregorian_year}
use mathlib.Core.Path.{◌∙◌, sym}
use mir.Syntax.{w32}
use mir.Facts.{to_z-of_z}
use Rattle.inner.specs.Laws.{gregorian_alone, spot_year_and_ordinal, raised_day_biased, biased_day_lem, biased_year}
use Rattle.inner.proofs.jdn2gregorian.Goals as goal

pub returns : goal.returns
returns c =
    let x = c.raised.result in
    let p = c.gregorian_place-place.ensures in
    spot_year_and_ordinal gregorian_alone (gregorian_year (raised_day_biased c.raised.type_inv) p) p
    (biased_day_lem x ∙ c.raised.ensures ∙ to_z-of_z c.ranges.jdn)
    (biased_year c.gregorian_place-place.result.year ∙ sym c.lowered.ensures ∙ sym (to_z-of_z {w = w32} (record { sfits = c.lowered.type_inv })))
