-- `explaining::fill::put_shown` meets its promise, the loop by the invariant that the bytes up to `i` are put. The measure is what is left of them.
use Rattle.explaining.specs.Laws.{showing_on, showing_done}
use Rattle.explaining.proofs.fill.put_shown.Goals as goal

pub loop-i-preserved : goal.loop-i-preserved
loop-i-preserved c = showing_on _ c.requires c.loop-i.invariant c.loop-i-test.true c.shown_byte.ensures

pub returns : goal.returns
returns c = showing_done _ c.requires c.loop-i.invariant c.loop-i-test.false
