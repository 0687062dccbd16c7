-- `explaining::fill::put_shown` meets its promise, the loop by the invariant that the bytes up to `i` are put.
use Rattle.writer.proofs.PutLaws.{Copying}
use Rattle.explaining.specs.Patterns.{shown}
use Rattle.explaining.proofs.fill.put_shown.Given as goal

abbrev pub invariant-loop-i : goal.invariant-loop-i
invariant-loop-i l = Copying l.initial.out l.at (shown l.text) l.out l.i
