-- `expected::after_year` meets its promise.
use mathlib.Core.Path.{refl}
use mir.Facts.{to_z-of_z}
use Rattle.expected.specs.Faults.{year_answer, year_refused}
use borrow.Author.Rules.{rules}
use mir.Syntax.{w32}
use Rattle.expected.proofs.after_year.Goals as goal

pub returns-in-Ok : goal.returns-in-Ok
returns-in-Ok c = rw (c.year_digits.ensures, to_z-of_z {w = w32} {z = c.in-Ok.year} (search rules)) (year_answer c.requires c.in-Ok.ensures refl)

pub returns-in-Err : goal.returns-in-Err
returns-in-Err c = absurd (year_refused c.requires c.in-Err.ensures refl)
