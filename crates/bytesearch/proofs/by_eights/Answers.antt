-- `bytesearch::by_eights` meets its promise. The loop's invariant is `Going`: what was passed is without the byte. The measure is what is left before the offset at which fewer than eight bytes are left.
use Rattle.bytesearch.specs.Laws.{going_start, going_then, four_found, four_passed, eight_passed}
use native.Mathlib.Omega.{arith}
use Rattle.bytesearch.proofs.by_eights.Goals as goal

pub loop-i-init : goal.loop-i-init
loop-i-init c = going_start _ _ _

pub in_four-near-requires : goal.in_four-near-requires
in_four-near-requires c = omega (arith, c.eights_end-end.ensures _ c.loop-i-test.true)

pub overflow_add-result : goal.overflow_add-result
overflow_add-result c = omega (arith, c.eights_end-end.ensures _ c.loop-i-test.true)

pub returns-then-near-lt4 : goal.returns-then-near-lt4
returns-then-near-lt4 c = four_found c.loop-i.invariant c.in_four-near.ensures (omega (arith, c.eights_end-end.ensures _ c.loop-i-test.true)) c.if-near-lt4.true

pub overflow_add-i : goal.overflow_add-i
overflow_add-i c = omega (arith, c.eights_end-end.ensures _ c.loop-i-test.true)

pub in_four-far-requires : goal.in_four-far-requires
in_four-far-requires c = omega (arith, c.eights_end-end.ensures _ c.loop-i-test.true)

pub overflow_add-result-then-far-lt4 : goal.overflow_add-result-then-far-lt4
overflow_add-result-then-far-lt4 c = omega (arith, c.eights_end-end.ensures _ c.loop-i-test.true)

pub overflow_add-result-then-far-lt4-2 : goal.overflow_add-result-then-far-lt4-2
overflow_add-result-then-far-lt4-2 c = omega (arith, c.eights_end-end.ensures _ c.loop-i-test.true)

pub returns-then-far-lt4 : goal.returns-then-far-lt4
returns-then-far-lt4 c = four_found (four_passed c.loop-i.invariant c.in_four-near.ensures c.if-near-lt4.false) c.in_four-far.ensures (omega (arith, c.eights_end-end.ensures _ c.loop-i-test.true)) c.if-far-lt4.true

pub overflow_add-i-in-loop-i : goal.overflow_add-i-in-loop-i
overflow_add-i-in-loop-i c = omega (arith, c.eights_end-end.ensures _ c.loop-i-test.true)

pub loop-i-smaller : goal.loop-i-smaller
loop-i-smaller c = omega (arith, c.eights_end-end.ensures _ c.loop-i-test.true)

pub loop-i-preserved : goal.loop-i-preserved
loop-i-preserved c = eight_passed c.loop-i.invariant c.in_four-near.ensures c.if-near-lt4.false c.in_four-far.ensures c.if-far-lt4.false

pub returns : goal.returns
returns c = going_then c.loop-i.invariant c.next_to.ensures
