-- `switches::month_in` meets its promise.
use native.Mathlib.Omega.{arith}
use Rattle.switches.specs.Laws.{month_in_is, month_has_first, ordinal_some}
use Rattle.switches.proofs.month_in.Goals as goal

pub overflow_sub-result : goal.overflow_sub-result
overflow_sub-result c = omega (arith, ordinal_some c.in-Some.ensures)

pub returns-in-Some : goal.returns-in-Some
returns-in-Some c = month_in_is c.days_in_month-days.ensures c.in-Some.ensures

pub returns-in-None : goal.returns-in-None
returns-in-None c = absurd (month_has_first c.requires.0 c.in-None.ensures)
