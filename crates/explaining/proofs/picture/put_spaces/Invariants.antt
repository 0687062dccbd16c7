-- `explaining::picture::put_spaces` meets its promise, the loop by the invariant that `i` spaces are put.
use Rattle.writer.proofs.PutLaws.{Copying}
use Rattle.explaining.specs.Wording.{spaces}
use Rattle.explaining.proofs.picture.put_spaces.Given as goal

abbrev pub invariant-loop-i : goal.invariant-loop-i
invariant-loop-i l = Copying l.initial.out l.at (spaces l.n) l.out l.i
