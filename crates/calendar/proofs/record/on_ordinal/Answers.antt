-- `calendar::record::on_ordinal` meets its promise.
use Rattle.refusals.specs.Passed.{passed_on}
use mathlib.Core.Path.{◌∙◌}
use mir.Facts.{to_z-of_z}
use Rattle.inner.specs.Laws.{biased_year, raised_year_biased}
use Rattle.calendar.specs.Laws.{ordinal_placed, place_some, place_record, place_ordinal, off_row}
use Rattle.calendar.proofs.record.on_ordinal.Goals as goal

pub ordinal_place-requires : goal.ordinal_place-requires
ordinal_place-requires c = (c.args.calendar, c.requires)

pub given-requires : goal.given-requires
given-requires c =
    let (i, e) = ordinal_placed c.in_ok-p.ensures in
    (place_some c.args.calendar c.requires (biased_year c.raised.result ∙ c.raised.ensures) i, place_record c.args.calendar c.requires (biased_year c.raised.result ∙ c.raised.ensures) i)

pub returns : goal.returns
returns c =
    let (i, e) = ordinal_placed c.in_ok-p.ensures in
    place_ordinal c.args.calendar c.requires (biased_year c.raised.result ∙ c.raised.ensures ∙ to_z-of_z c.ranges.year) i e (rw (to_z-of_z c.ranges.year) at c.given.ensures)

pub returns-in_err-p : goal.returns-in_err-p
returns-in_err-p c =
    rw (passed_on _ c.from_residual.ensures.1)
    (off_row c.args.calendar c.requires c.raised.result (raised_year_biased c.raised.type_inv) (biased_year c.raised.result ∙ c.raised.ensures ∙ to_z-of_z c.ranges.year) c.in_err-p.ensures)
