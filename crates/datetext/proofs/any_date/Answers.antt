-- `datetext::any_date` meets its promise: the read is given which answer it has, and `after_year` computes there.
use mir.Syntax.{w32}
use mir.Facts.{to_z-of_z}
use mathlib.Core.Path.{ap, ◌∙◌}
use Rattle.std.proofs.lemmas.Result.{err_from_is_err_and}
use Rattle.numbertext.specs.Meaning.{signed_is}
use Rattle.datetext.specs.Reading.{after_year}
use Rattle.datetext.proofs.Laws.{read_as}
use borrow.Author.Rules.{rules}
use Rattle.datetext.proofs.any_date.Goals as goal

pub returns-in_err-year : goal.returns-in_err-year
returns-in_err-year c =
    let p = err_from_is_err_and c.from_residual.result c.from_residual.ensures.1 in
    rw (p.1, p.2) (read_as (ap (after_year c.args.text.now) (signed_is c.in_err-year.ensures)))

pub returns : goal.returns
returns c = read_as ((rw (to_z-of_z {w = w32} {z = c.in_ok-year.year} (search rules)) at c.year_on.ensures) ∙ ap (after_year c.args.text.now) (signed_is c.in_ok-year.ensures))
