-- `months::contains` meets its promise.
use mathlib.Core.Path.{◌∙◌}
use mir.Facts.{to_z-of_z}
use Rattle.inner.specs.Laws.{biased_year, raised_year_biased}
use Rattle.refusals.specs.Passed.{passed_on}
use Rattle.months.specs.Laws.{span_is, span_refused, contains_row}
use Rattle.months.proofs.contains.Goals as goal

pub returns-in_err-s : goal.returns-in_err-s
returns-in_err-s c = rw (passed_on _ c.from_residual.ensures.1) (span_refused (rw (to_z-of_z c.ranges.year) at c.in_err-s.ensures))

pub returns : goal.returns
returns c =
    contains_row _ _ (span_is (rw (to_z-of_z c.ranges.year) at c.in_ok-s.ensures)) (raised_year_biased c.raised.type_inv) (biased_year c.raised.result ∙ c.raised.ensures ∙ to_z-of_z c.ranges.year) c.find.ensures c.is_ok.ensures.value
