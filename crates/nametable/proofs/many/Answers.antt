-- `nametable::many` meets its promise.
use Rattle.nametable.specs.HashLaws.{mixing_start, mixing_on, mixing_done}
use Rattle.std.proofs.Common.{arith}
use Rattle.nametable.proofs.many.Goals.{else-loop-i-test, then-loop-i-test+else-last-i-gt8}
use Rattle.nametable.proofs.many.Goals as goal

pub loop-i-init : goal.loop-i-init
loop-i-init c = mixing_start _ c.requires

pub loop-i-preserved : goal.loop-i-preserved
loop-i-preserved c = mixing_on c.loop-i.invariant (omega arith) c.word_at.ensures c.mixed-h.ensures

pub returns : goal.returns
returns c =
    elim c.loop-i-test.branch [
      | else-loop-i-test w ↦ mixing_done c.loop-i.invariant c.requires w.loop-i-test.false c.word_at-2.ensures (rw w.h-is at c.mixed.ensures)
      | then-loop-i-test+else-last-i-gt8 w ↦ mixing_done (mixing_on c.loop-i.invariant (omega arith) w.word_at.ensures w.mixed-h.ensures) c.requires (omega arith) c.word_at-2.ensures (rw w.h-is at c.mixed.ensures)
    ]
