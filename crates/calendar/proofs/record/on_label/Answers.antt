-- `calendar::record::on_label` meets its promise.
use Rattle.refusals.specs.Passed.{passed_on}
use mathlib.Core.Path.{◌∙◌}
use mir.Facts.{to_z-of_z}
use Rattle.inner.specs.Laws.{biased_year, raised_year_biased}
use Rattle.calendar.specs.Rows.{refuses, passes}
use Rattle.calendar.specs.Laws.{place_some, place_record, place_ymd, refused_row}
use Rattle.calendar.proofs.record.on_label.Goals as goal
use Rattle.std.specs.Prelude.{Err}

pub label_place-requires : goal.label_place-requires
label_place-requires c = ((c.args.calendar, c.requires), rw c.if-is_month.true at c.is_month.ensures)

pub given-requires : goal.given-requires
given-requires c =
    let (i, e, f) = c.in_ok-p.ensures in
    (place_some c.args.calendar c.requires (biased_year c.raised.result ∙ c.raised.ensures) i, place_record c.args.calendar c.requires (biased_year c.raised.result ∙ c.raised.ensures) i)

pub returns-then-is_month : goal.returns-then-is_month
returns-then-is_month c =
    let (i, e, f) = c.in_ok-p.ensures in
    place_ymd c.args.calendar c.requires (biased_year c.raised.result ∙ c.raised.ensures ∙ to_z-of_z c.ranges.year) i e f (rw (to_z-of_z c.ranges.year) at c.given.ensures)

pub returns-in_err-p : goal.returns-in_err-p
returns-in_err-p c =
    rw (passed_on _ c.from_residual.ensures.1)
    (passes c.requires.accepted (passes (rw c.if-is_month.true at c.is_month.ensures) (refused_row c.args.calendar c.requires (raised_year_biased c.raised.type_inv) (biased_year c.raised.result ∙ c.raised.ensures ∙ to_z-of_z c.ranges.year) Err c.in_err-p.ensures)))

pub returns : goal.returns
returns c = rw c.refusal_with.ensures (passes c.requires.accepted (refuses (rw c.if-is_month.false at c.is_month.ensures)))
