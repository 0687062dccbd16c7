-- `explaining::fill::fill` meets its promise, the loop by the invariant `Going`. The measure is what is left of the pattern.
use Rattle.explaining.specs.Laws.{going_room, going_on, going_done}
use Rattle.explaining.proofs.fill.fill.Goals as goal

pub put_piece-end-requires : goal.put_piece-end-requires
put_piece-end-requires c = going_room c.loop-b.invariant c.requires c.loop-b-test.true

pub loop-b-preserved : goal.loop-b-preserved
loop-b-preserved c = going_on c.loop-b.invariant c.requires c.loop-b-test.true c.put_piece-end.auto.out c.used_after-used.ensures c.put_piece-end.ensures

pub returns : goal.returns
returns c = going_done c.loop-b.invariant c.requires c.loop-b-test.false
