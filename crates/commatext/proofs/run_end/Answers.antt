-- `commatext::run_end` meets its promise. The loop's invariant is `Along`; the measure is what is left of the bytes.
use native.Mathlib.Omega.{arith}
use Rattle.commatext.specs.Laws.{tells_yes, tells_no, along_start, along_on, stopped_byte, stopped_end}
use Rattle.commatext.proofs.run_end.Goals as goal

pub loop-i-init : goal.loop-i-init
loop-i-init c = along_start _ c.requires

pub loop-i-preserved : goal.loop-i-preserved
loop-i-preserved c = along_on c.loop-i.invariant (rw c.min-limit.ensures at c.loop-i-test.true) (tells_yes c.stands.ensures c.if-stands.true)

pub returns-else-stands : goal.returns-else-stands
returns-else-stands c = record { along = c.loop-i.invariant; stopped = stopped_byte _ (omega (arith, c.min-limit.ensures)) (tells_no c.stands.ensures c.if-stands.false) }

pub returns : goal.returns
returns c = record { along = c.loop-i.invariant; stopped = stopped_end _ (rw c.min-limit.ensures at c.loop-i-test.false) }
