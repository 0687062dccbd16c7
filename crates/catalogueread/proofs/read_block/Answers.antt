-- `catalogueread::read_block` meets its promise.
use Rattle.refusals.specs.Passed.{passed_on}
use Rattle.catalogueread.specs.Promise.{ReadsBlock}
use Rattle.catalogueread.specs.Laws.{leads_on}
use Rattle.catalogueread.proofs.read_block.Goals as goal

pub returns-in_err-p : goal.returns-in_err-p
returns-in_err-p c = rw (passed_on _ c.from_residual.ensures.1) (c.loop-p.invariant _ (ReadsBlock.stops c.loop-p-test.true c.in_err-p.ensures))

pub loop-p-preserved : goal.loop-p-preserved
loop-p-preserved c = leads_on c.loop-p.invariant c.loop-p-test.true c.in_ok-p.ensures

pub returns : goal.returns
returns c = c.loop-p.invariant _ (ReadsBlock.block_ends c.loop-p-test.false)
