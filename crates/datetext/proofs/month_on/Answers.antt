-- `datetext::month_on` meets its promise: the read is given which answer it has, and `after_month_value` computes there.
use mir.Facts.{to_z-of_z}
use mathlib.Core.Path.{ap, ◌∙◌}
use Rattle.std.proofs.lemmas.Result.{err_from_is_err_and}
use Rattle.numbertext.specs.Meaning.{dash_is}
use Rattle.datetext.specs.Reading.{after_month_value}
use Rattle.datetext.proofs.month_on.Goals as goal

pub returns-in_err-next : goal.returns-in_err-next
returns-in_err-next c =
    let a = c.args in
    let p = err_from_is_err_and c.from_residual.result c.from_residual.ensures.1 in
    rw (p.1, p.2) (ap (after_month_value a.text.now a.year a.month) (dash_is c.in_err-next.ensures))

pub returns : goal.returns
returns c =
    let a = c.args in
    (rw (to_z-of_z c.ranges.year) at c.day_on.ensures) ∙ ap (after_month_value a.text.now a.year a.month) (dash_is c.in_ok-next.ensures)
