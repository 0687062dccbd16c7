-- `catalogueread::read_next` meets its promise: the line ends in the block, and is added or refused; or the block ends in the line.
use native.Mathlib.Omega.{arith}
use Rattle.bytesearch.specs.Laws.{up_to_inside}
use Rattle.textlines.specs.Laws.{takes_rest, takes_line}
use Rattle.catalogueread.specs.Promise.{ReadsNext}
use Rattle.catalogueread.proofs.read_next.Goals as goal

pub slice_bounds-add_to_line-end : goal.slice_bounds-add_to_line-end
slice_bounds-add_to_line-end c =
    let i = up_to_inside c.by_eights-end.ensures (omega (arith, c.requires)) in
    omega (arith, i.0, i.1)

pub returns-in-Err : goal.returns-in-Err
returns-in-Err c = ReadsNext.refused (takes_line c.add_to_line-n.ensures c.requires c.by_eights-end.ensures c.if-end-block.true) (rw c.in-Err.is at c.add_held.ensures)

pub returns-in-Ok : goal.returns-in-Ok
returns-in-Ok c = ReadsNext.line (takes_line c.add_to_line-n.ensures c.requires c.by_eights-end.ensures c.if-end-block.true) (rw c.in-Ok.is at c.add_held.ensures)

pub returns : goal.returns
returns c = ReadsNext.rest (takes_rest c.add_to_line-n.ensures c.requires c.by_eights-end.ensures c.if-end-block.false)
