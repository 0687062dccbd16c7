-- `linetext::put_numbers` meets its promise: two signed columns before the others (`numbers_columns`).
use Rattle.linetext.specs.Laws.{numbers_columns}
use native.Mathlib.Omega.{arith}
use borrow.Author.Rules.{rules}
use Rattle.linetext.proofs.put_numbers.Goals as goal

pub returns : goal.returns
returns c = numbers_columns c.requires (omega (arith, c.put_integer-second.auto.out)) (search rules) (search rules) c.put_integer-second.ensures c.put_year-third.ensures c.put_last_five.ensures
