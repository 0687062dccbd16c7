-- `bytesearch::up_to` meets its promise. The loop's invariant is `Going`, as in `by_eights`.
use Rattle.bytesearch.specs.Laws.{going_start, going_then, going_further}
use native.Mathlib.Omega.{arith}
use Rattle.bytesearch.proofs.up_to.Goals as goal

pub loop-i-init : goal.loop-i-init
loop-i-init c = going_start _ _ _

pub any_sixteen-requires : goal.any_sixteen-requires
any_sixteen-requires c = c.sixteens_end-end.ensures _ c.loop-i-test.true

pub returns-then-any_sixteen-ne0 : goal.returns-then-any_sixteen-ne0
returns-then-any_sixteen-ne0 c = going_then c.loop-i.invariant c.by_eights.ensures

pub overflow_add-i : goal.overflow_add-i
overflow_add-i c = omega (arith, c.sixteens_end-end.ensures _ c.loop-i-test.true)

pub loop-i-smaller : goal.loop-i-smaller
loop-i-smaller c = omega (arith, c.sixteens_end-end.ensures _ c.loop-i-test.true)

pub loop-i-preserved : goal.loop-i-preserved
loop-i-preserved c = going_further c.loop-i.invariant (c.any_sixteen.ensures (omega (arith, c.if-any_sixteen-ne0.false)))

pub returns : goal.returns
returns c = going_then c.loop-i.invariant c.by_eights-2.ensures
