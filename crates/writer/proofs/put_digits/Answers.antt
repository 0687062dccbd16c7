-- `writer::put_digits` meets its promise. The loop's invariant is `Filling`: what is still to be put takes the buffer to the whole.
use mathlib.Core.Path.{sym, ap}
use Prim.Native.Nat.{ℕ, ◌+◌}
use Rattle.writer.specs.Laws.{length_digits}
use Rattle.writer.proofs.PutLaws.{filling_step, filling_done}
use Rattle.writer.proofs.put_digits.Goals as goal

pub loop-i-preserved : goal.loop-i-preserved
loop-i-preserved c = filling_step c.loop-i.invariant c.loop-i-test.true

pub returns : goal.returns
returns c = record { is = filling_done c.loop-i.invariant c.loop-i-test.false; offset = ap (λ (i : ℕ). c.args.at + i) (sym (length_digits c.args.k c.args.n)) }
