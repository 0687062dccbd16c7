-- `entry::parts_of` meets its promise.
use native.Mathlib.Omega.{arith}
use Rattle.bytesearch.specs.Laws.{up_to_inside}
use Rattle.entry.specs.Laws.{entry_from}
use Rattle.entry.proofs.parts_of.Goals as goal

pub returns : goal.returns
returns c = record {
  entry = rw c.min.ensures (entry_from c.by_eights-name_end.ensures);
  name_inside = (up_to_inside c.by_eights-name_end.ensures (omega arith)).1;
  text_inside = omega (arith, c.min.ensures);
}
