-- `nametable::same_many` meets its promise.
use Rattle.nametable.specs.Words.{passed_on, passed_all, word_differs}
use Rattle.std.proofs.Common.{arith}
use Rattle.nametable.proofs.same_many.Goals as goal

pub returns-then-word_at : goal.returns-then-word_at
returns-then-word_at c = word_differs _ _ _ _ (omega arith) c.word_at.ensures c.word_at-2.ensures c.if-word_at.true

pub returns-then-word_at-2 : goal.returns-then-word_at-2
returns-then-word_at-2 c = word_differs _ _ _ _ (omega arith) c.word_at-in-loop-i.ensures c.word_at-in-loop-i-2.ensures c.if-word_at-2.true

pub loop-i-preserved : goal.loop-i-preserved
loop-i-preserved c = passed_on _ _ c.shared_slice_known-1.given c.shared_slice_known-2-1.given _ _ c.loop-i.invariant c.word_at-in-loop-i.ensures c.word_at-in-loop-i-2.ensures c.if-word_at-2.false

pub returns : goal.returns
returns c = passed_all _ _ c.shared_slice_known-1.given c.shared_slice_known-2-1.given _ _ c.requires.0 c.loop-i-test.false c.loop-i.invariant c.word_at.ensures c.word_at-2.ensures c.if-word_at.false
