-- `switches::reading` meets its promise.
use native.Mathlib.Omega.{arith}
use Rattle.switches.specs.Laws.{reading_at, reading_none, ordinal_some}
use Rattle.switches.proofs.reading.Goals as goal

pub overflow_sub-result : goal.overflow_sub-result
overflow_sub-result c = omega (arith, ordinal_some c.in-Some.ensures)

pub returns-in-None : goal.returns-in-None
returns-in-None c = reading_none c.in-None.ensures

pub returns-in-Some : goal.returns-in-Some
returns-in-Some c = reading_at c.in-Some.ensures
