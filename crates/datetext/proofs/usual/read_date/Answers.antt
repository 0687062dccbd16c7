-- `datetext::usual::read_date` meets its promise: a year that is found takes the text to the second number.
use mir.Syntax.{w32}
use mir.Facts.{to_z-of_z}
use mathlib.Core.Path.{sym, ap, ◌∙◌}
use native.Mathlib.Omega.{arith}
use lib.IntN.{ℤ}
use Rattle.numbertext.specs.Reading.{the_number}
use Rattle.datetext.specs.Reading.{after_second}
use Rattle.datetext.proofs.Laws.{read_meant}
use Rattle.datetext.specs.Usual.{if_at, lowered_year}
use Rattle.datetext.proofs.usual.read_date.Goals as goal

pub overflow_add-year : goal.overflow_add-year
overflow_add-year c = omega (arith, (if_at c.in-Some.ensures).small)

pub usual_on-requires : goal.usual_on-requires
usual_on-requires c = (if_at c.in-Some.ensures).within

pub returns : goal.returns
returns c =
    let s = c.args.text.now in
    let n = c.in-Some.second in
    read_meant
    (c.usual_on.ensures
    ∙ ap (λ (y : ℤ). after_second s y n (the_number s n)) (to_z-of_z {w = w32} (record { sfits = c.lowered.type_inv }) ∙ c.lowered.ensures ∙ lowered_year c.in-Some.year)
    ∙ sym (if_at c.in-Some.ensures).read)
