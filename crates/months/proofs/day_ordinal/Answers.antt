-- `months::day_ordinal` meets its promise.
use mathlib.Core.Path.{◌∙◌}
use native.Mathlib.Omega.{arith}
use mir.Facts.{to_z-of_z}
use Rattle.inner.specs.Laws.{biased_year, raised_year_biased}
use Rattle.refusals.specs.Passed.{passed_on}
use Rattle.months.specs.Laws.{span_is, span_refused, found_room, found_from, found_few, place_row, refused_place}
use Rattle.months.proofs.day_ordinal.Goals as goal

pub overflow_add-result : goal.overflow_add-result
overflow_add-result c =
    record { fits = omega (arith, found_room _ _ (span_is (rw (to_z-of_z c.ranges.year) at c.in_ok-s.ensures)) (raised_year_biased c.raised.type_inv) (biased_year c.raised.result ∙ c.raised.ensures ∙ to_z-of_z c.ranges.year) c.in_ok-spot.ensures) }

pub overflow_sub-result : goal.overflow_sub-result
overflow_sub-result c =
    found_from _ _ (span_is (rw (to_z-of_z c.ranges.year) at c.in_ok-s.ensures)) (raised_year_biased c.raised.type_inv) (biased_year c.raised.result ∙ c.raised.ensures ∙ to_z-of_z c.ranges.year) c.in_ok-spot.ensures

pub overflow_cast-result : goal.overflow_cast-result
overflow_cast-result c =
    record { fits = found_few _ _ (span_is (rw (to_z-of_z c.ranges.year) at c.in_ok-s.ensures)) (raised_year_biased c.raised.type_inv) (biased_year c.raised.result ∙ c.raised.ensures ∙ to_z-of_z c.ranges.year) c.in_ok-spot.ensures }

pub returns-in_err-s : goal.returns-in_err-s
returns-in_err-s c = rw (passed_on _ c.from_residual.ensures.1) (span_refused (rw (to_z-of_z c.ranges.year) at c.in_err-s.ensures))

pub returns : goal.returns
returns c =
    place_row _ _ (span_is (rw (to_z-of_z c.ranges.year) at c.in_ok-s.ensures)) (raised_year_biased c.raised.type_inv) (biased_year c.raised.result ∙ c.raised.ensures ∙ to_z-of_z c.ranges.year) c.in_ok-spot.ensures

pub returns-in_err-spot : goal.returns-in_err-spot
returns-in_err-spot c =
    rw (passed_on _ c.from_residual-in_err-spot.ensures.1) (refused_place _ _ (span_is (rw (to_z-of_z c.ranges.year) at c.in_ok-s.ensures)) (raised_year_biased c.raised.type_inv) (biased_year c.raised.result ∙ c.raised.ensures ∙ to_z-of_z c.ranges.year) c.in_err-spot.ensures)
