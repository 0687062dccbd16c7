-- `datetext::day_on` meets its promise: each read is given which answer it has, and `after_day` computes there.
use mir.Facts.{to_z-of_z}
use mathlib.Core.Path.{ap, ◌∙◌}
use Rattle.std.proofs.lemmas.Result.{err_from_is_err_and}
use Rattle.numbertext.specs.Meaning.{number_is, end_is}
use Rattle.datetext.specs.Reading.{to_ymd, after_day}
use Rattle.datetext.proofs.day_on.Goals as goal

pub returns-in_err-day : goal.returns-in_err-day
returns-in_err-day c =
    let a = c.args in
    let p = err_from_is_err_and c.from_residual.result c.from_residual.ensures.1 in
    rw (p.1, p.2) (ap (after_day a.text.now a.year a.month a.at) (number_is c.in_err-day.ensures))

pub returns-in_err-end_at : goal.returns-in_err-end_at
returns-in_err-end_at c =
    let a = c.args in
    let p = err_from_is_err_and c.from_residual-in_err-end_at.result c.from_residual-in_err-end_at.ensures.1 in
    rw (p.1, p.2) (ap (to_ymd _ _ _ _) (end_is c.in_err-end_at.ensures) ∙ ap (after_day a.text.now a.year a.month a.at) (number_is c.in_ok-day.ensures))

pub returns : goal.returns
returns c =
    let a = c.args in
    rw (to_z-of_z c.ranges.year) (ap (to_ymd _ _ _ _) (end_is c.in_ok-end_at.ensures) ∙ ap (after_day a.text.now a.year a.month a.at) (number_is c.in_ok-day.ensures))
