-- `explaining::picture::put_spaces` meets its promise, the loop by the invariant that `i` spaces are put. The measure is how many are left.
use Rattle.explaining.specs.Laws.{spacing_on, spacing_done}
use Rattle.explaining.proofs.picture.put_spaces.Goals as goal

pub loop-i-preserved : goal.loop-i-preserved
loop-i-preserved c = spacing_on _ c.requires c.loop-i.invariant c.loop-i-test.true

pub returns : goal.returns
returns c = spacing_done _ c.requires c.loop-i.invariant c.loop-i-test.false
