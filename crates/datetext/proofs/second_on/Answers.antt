-- `datetext::second_on` meets its promise: the read is given which answer it has, and `after_second` computes there.
use mir.Facts.{to_z-of_z}
use mathlib.Core.Path.{sym, ap, ◌∙◌}
use Rattle.std.specs.Prelude.{Err}
use Rattle.std.proofs.lemmas.Result.{err_from_is_err_and}
use Rattle.numbertext.specs.Meaning.{number_is}
use Rattle.datetext.specs.Reading.{after_second}
use Rattle.digits.specs.Runs.{pick_yes, pick_no}
use borrow.Author.Tests.{lt-ltb, le-ltb}
use Rattle.datetext.proofs.second_on.Goals as goal

pub returns-in_err-n : goal.returns-in_err-n
returns-in_err-n c =
    let a = c.args in
    let p = err_from_is_err_and c.from_residual.result c.from_residual.ensures.1 in
    rw (p.1, p.2) (ap (after_second a.text.now a.year a.at) (number_is c.in_err-n.ensures))

pub returns-then-text-next : goal.returns-then-text-next
returns-then-text-next c =
    let a = c.args in
    rw (to_z-of_z c.ranges.year) (sym (pick_no _ _ (le-ltb _ _ c.if-text-next.true)) ∙ ap (after_second a.text.now a.year a.at) (number_is c.in_ok-n.ensures))

pub returns-then-is_month : goal.returns-then-is_month
returns-then-is_month c =
    let a = c.args in
    (rw (to_z-of_z c.ranges.year) at c.month_on.ensures)
    ∙ sym (pick_yes _ _ (lt-ltb _ _ c.if-text-next.false) ∙ pick_yes _ _ (sym c.is_month.ensures ∙ c.if-is_month.true))
    ∙ ap (after_second a.text.now a.year a.at) (number_is c.in_ok-n.ensures)

pub returns-else-is_month : goal.returns-else-is_month
returns-else-is_month c =
    let a = c.args in
    ap Err c.refusal_at.ensures
    ∙ sym (pick_yes _ _ (lt-ltb _ _ c.if-text-next.false) ∙ pick_no _ _ (sym c.is_month.ensures ∙ c.if-is_month.false))
    ∙ ap (after_second a.text.now a.year a.at) (number_is c.in_ok-n.ensures)
