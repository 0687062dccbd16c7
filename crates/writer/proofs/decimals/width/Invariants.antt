-- `writer::decimals::width` meets its promise. The loop's invariant is `Counting`: what is still to be counted comes to the whole with what was. The measure is the rest.
use Rattle.writer.specs.Laws.{Counting}
use Rattle.writer.proofs.decimals.width.Given as goal

abbrev pub invariant-loop-rest : goal.invariant-loop-rest
invariant-loop-rest l = Counting l.n l.rest l.k

abbrev pub decreases-loop-rest : goal.decreases-loop-rest
decreases-loop-rest l = l.rest
