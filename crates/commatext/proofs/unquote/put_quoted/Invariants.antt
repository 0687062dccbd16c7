-- `commatext::unquote::put_quoted` meets its promise. The loop's invariant is `Unquoting`; the measure is what is left of the field.
use Prim.Native.Nat.{◌+◌, ◌-◌}
use lib.ListN.{length}
use Rattle.commatext.specs.UnquoteLaws.{Unquoting}
use Rattle.commatext.proofs.unquote.put_quoted.Given as goal

abbrev pub invariant-loop-i : goal.invariant-loop-i
invariant-loop-i l = Unquoting l.field l.initial.line l.at l.line l.i l.n

abbrev pub decreases-loop-i : goal.decreases-loop-i
decreases-loop-i l = length l.field + 1 - l.i
