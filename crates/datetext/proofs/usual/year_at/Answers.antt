-- `datetext::usual::year_at` meets its promise: the hundreds and two digits after them write the year.
use native.Mathlib.Omega.{arith}
use Rattle.digits.specs.Few.{pair_seen}
use Rattle.datetext.specs.Usual.{IfAt, hundreds_place, year_is}
use Rattle.datetext.proofs.usual.year_at.Goals as goal

pub overflow_add-result-2 : goal.overflow_add-result-2
overflow_add-result-2 c = omega (arith, hundreds_place c.requires)

pub returns : goal.returns
returns c = IfAt.found (year_is c.requires (omega arith) (pair_seen _ _ c.pair_at-rest.ensures (omega arith)))
