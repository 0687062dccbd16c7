-- `listing::list_next` meets its promise: the line ends in the block, or the block in the line.
use Rattle.textlines.specs.Laws.{takes_rest, takes_line}
use Rattle.listing.specs.Promise.{NextLine}
use Rattle.listing.specs.Laws.{next_line}
use Rattle.bytesearch.specs.Laws.{up_to_inside}
use native.Mathlib.Omega.{arith}
use Rattle.listing.proofs.list_next.Goals as goal

pub slice_bounds-add_to_line-count : goal.slice_bounds-add_to_line-count
slice_bounds-add_to_line-count c = (up_to_inside c.up_to-end.ensures (omega (arith, c.requires.0))).0

pub slice_bounds-add_to_line-start : goal.slice_bounds-add_to_line-start
slice_bounds-add_to_line-start c =
    let i = up_to_inside c.up_to-end.ensures (omega (arith, c.requires.0)) in
    omega (arith, i.0, i.1)

pub slice_bounds-add_to_line-end : goal.slice_bounds-add_to_line-end
slice_bounds-add_to_line-end c =
    let i = up_to_inside c.up_to-end.ensures (omega (arith, c.requires.0)) in
    omega (arith, i.0, i.1)

pub returns-then-end-block : goal.returns-then-end-block
returns-then-end-block c = next_line (takes_line c.add_to_line-n.ensures c.requires.0 c.up_to-end.ensures c.if-end-block.true) c.put_held-used.ensures

pub returns : goal.returns
returns c = NextLine.rest (takes_rest c.add_to_line-n.ensures c.requires.0 c.up_to-end.ensures c.if-end-block.false)
