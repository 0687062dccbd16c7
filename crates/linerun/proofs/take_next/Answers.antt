-- `linerun::take_next` meets its promise: the line ends in the bytes, or the bytes in the line.
use native.Mathlib.Omega.{arith}
use Rattle.bytesearch.specs.Laws.{up_to_inside}
use Rattle.textlines.specs.Laws.{takes_rest, takes_line}
use Rattle.linerun.specs.Promise.{TakesNext}
use Rattle.linerun.proofs.take_next.Goals as goal

pub slice_bounds-add_to_line-count : goal.slice_bounds-add_to_line-count
slice_bounds-add_to_line-count c = (up_to_inside c.up_to-end.ensures (omega (arith, c.requires))).0

pub slice_bounds-add_to_line-start : goal.slice_bounds-add_to_line-start
slice_bounds-add_to_line-start c = let i = up_to_inside c.up_to-end.ensures (omega (arith, c.requires)) in omega (arith, i.0, i.1)

pub slice_bounds-add_to_line-end : goal.slice_bounds-add_to_line-end
slice_bounds-add_to_line-end c = let i = up_to_inside c.up_to-end.ensures (omega (arith, c.requires)) in omega (arith, i.0, i.1)

pub returns-then-end-part : goal.returns-then-end-part
returns-then-end-part c = TakesNext.line (takes_line c.add_to_line-n.ensures c.requires c.up_to-end.ensures c.if-end-part.true) c.ended_at.ensures

pub returns : goal.returns
returns c = rw c.state_at.ensures (TakesNext.rest (takes_rest c.add_to_line-n.ensures c.requires c.up_to-end.ensures c.if-end-part.false))
