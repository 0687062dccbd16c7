-- `writer::put_digits` meets its promise. The loop's invariant is `Filling`: what is still to be put takes the buffer to the whole.
use Rattle.writer.proofs.PutLaws.{Filling}
use Rattle.writer.proofs.put_digits.Given as goal

abbrev pub invariant-loop-i : goal.invariant-loop-i
invariant-loop-i l = Filling l.initial.buf l.at l.k l.n l.buf l.i l.rest
