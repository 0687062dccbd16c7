-- `importing::import_text` meets its promise. The loop's invariant is `Reaches`; the measure is what is left of the text.
use mathlib.Core.Path.{sym, ◌∙◌}
use native.Mathlib.Omega.{arith}
use borrow.Author.Tests.{leb-true, leb-false}
use Rattle.importing.specs.Promise.{Imports}
use Rattle.importing.specs.Laws.{reaches_start, reaches_on, taken_on, taken_long}
use Rattle.importing.proofs.import_text.Goals as goal

pub loop-at-init : goal.loop-at-init
loop-at-init c = reaches_start _ _

pub take_record-requires : goal.take_record-requires
take_record-requires c = (c.loop-at-test.true, (leb-true _ _ (sym c.has_room.ensures ∙ c.if-has_room.true)))

pub loop-at-smaller : goal.loop-at-smaller
loop-at-smaller c = omega (arith, (taken_on c.loop-at-test.true (rw c.in-Written.is at c.take_record.ensures)).0, (taken_on c.loop-at-test.true (rw c.in-Written.is at c.take_record.ensures)).1)

pub loop-at-preserved : goal.loop-at-preserved
loop-at-preserved c = reaches_on c.loop-at.invariant c.loop-at-test.true (leb-true _ _ (sym c.has_room.ensures ∙ c.if-has_room.true)) (rw c.in-Written.is at c.take_record.ensures)

pub shape_of-out-in-Cut : goal.shape_of-out-in-Cut
shape_of-out-in-Cut c = taken_long (leb-true _ _ (sym c.has_room.ensures ∙ c.if-has_room.true)) (rw c.in-Cut.is at c.take_record.ensures) ∙ c.loop-at.invariant.long

pub returns-in-Cut : goal.returns-in-Cut
returns-in-Cut c = rw c.stopped_at.ensures (c.loop-at.invariant.onward _ _ (Imports.cut c.loop-at-test.true (leb-true _ _ (sym c.has_room.ensures ∙ c.if-has_room.true)) (rw c.in-Cut.is at c.take_record.ensures)))

pub shape_of-out-in-Ended : goal.shape_of-out-in-Ended
shape_of-out-in-Ended c = taken_long (leb-true _ _ (sym c.has_room.ensures ∙ c.if-has_room.true)) (rw c.in-Ended.is at c.take_record.ensures) ∙ c.loop-at.invariant.long

pub returns-in-Ended : goal.returns-in-Ended
returns-in-Ended c = rw c.stopped_at-in-Ended.ensures (c.loop-at.invariant.onward _ _ (Imports.ended c.loop-at-test.true (leb-true _ _ (sym c.has_room.ensures ∙ c.if-has_room.true)) (rw c.in-Ended.is at c.take_record.ensures)))

pub shape_of-out-else-has_room : goal.shape_of-out-else-has_room
shape_of-out-else-has_room c = c.loop-at.invariant.long

pub returns-else-has_room : goal.returns-else-has_room
returns-else-has_room c = rw c.stopped_at-else-has_room.ensures (c.loop-at.invariant.onward _ _ (Imports.full c.loop-at-test.true (leb-false _ _ (sym c.has_room.ensures ∙ c.if-has_room.false))))

pub shape_of-out : goal.shape_of-out
shape_of-out c = c.loop-at.invariant.long

pub returns : goal.returns
returns c = rw c.stopped_at-2.ensures (c.loop-at.invariant.onward _ _ (Imports.spent c.loop-at-test.false))
