-- `commatext::unquote::put_quoted` meets its promise. The loop's invariant is `Unquoting`; the measure is what is left of the field.
use Rattle.commatext.specs.UnquoteLaws.{unquoting_start, unquoting_on, unquoting_done}
use Rattle.commatext.proofs.unquote.put_quoted.Goals as goal

pub loop-i-init : goal.loop-i-init
loop-i-init c = unquoting_start _ _ _

pub loop-i-preserved : goal.loop-i-preserved
loop-i-preserved c = rw c.bytes_of-i.ensures (unquoting_on c.requires c.loop-i.invariant c.loop-i-test.true)

pub returns : goal.returns
returns c = unquoting_done c.loop-i.invariant c.loop-i-test.false
