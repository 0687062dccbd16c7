-- What is read is a part of the buffer, whose length stays.
use Rattle.std.proofs.Common.{length, ◌-◌, ◌≤◌, ◌≡◌}
use Rattle.streams.proofs.read_full.Given as goal

abbrev pub invariant-loop-used : goal.invariant-loop-used
invariant-loop-used g l = (l.used ≤ length l.buf) × (length l.buf ≡ length l.initial.buf)

abbrev pub decreases-loop-used : goal.decreases-loop-used
decreases-loop-used g l = length l.initial.buf - l.used
