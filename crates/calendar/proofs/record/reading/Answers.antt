-- `calendar::record::reading` meets its promise.
use native.Mathlib.Omega.{arith}
use Rattle.switches.specs.Laws.{ordinal_some, ordinal_sum, ordinal_none}
use Rattle.calendar.specs.Natural.{reads_at, reads_none}
use Rattle.calendar.proofs.record.reading.Goals as goal

pub overflow_sub-result : goal.overflow_sub-result
overflow_sub-result c = omega (arith, ordinal_some c.in-Some.ensures)

pub returns-in-None : goal.returns-in-None
returns-in-None c = reads_none (ordinal_none c.in-None.ensures)

pub returns-in-Some : goal.returns-in-Some
returns-in-Some c = let (v, e) = ordinal_sum c.in-Some.ensures in reads_at v e
