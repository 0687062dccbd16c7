-- `bytesearch::next_to` meets its promise. The loop's invariant is `Going`: what was passed is without the byte. The measure is what is left of the slice.
use Rattle.bytesearch.specs.Laws.{going_start, going_on, going_found, going_ended}
use native.Mathlib.Omega.{arith}
use Rattle.bytesearch.proofs.next_to.Goals as goal

pub loop-i-init : goal.loop-i-init
loop-i-init c = going_start _ _ _

pub bounds-s-i : goal.bounds-s-i
bounds-s-i c = omega arith

pub returns-then-s-i : goal.returns-then-s-i
returns-then-s-i c = going_found c.loop-i.invariant c.loop-i-test.true c.if-s-i.true

pub overflow_add-i : goal.overflow_add-i
overflow_add-i c = omega arith

pub loop-i-smaller : goal.loop-i-smaller
loop-i-smaller c = omega arith

pub loop-i-preserved : goal.loop-i-preserved
loop-i-preserved c = going_on c.loop-i.invariant c.loop-i-test.true c.if-s-i.false

pub returns : goal.returns
returns c = going_ended c.loop-i.invariant c.loop-i-test.false
