-- `linetext::put_refusal` meets its promise: the mark, and three columns joined from the last one on.
use Rattle.linetext.specs.Laws.{last_cell, cell_before, ends, refusal_line}
use native.Mathlib.Omega.{arith}
use Rattle.std.proofs.Common.{to_z, of_z, ◌≡◌, rules}
use Rattle.std.specs.Int.{w64}
use Rattle.linetext.proofs.put_refusal.Goals as goal

pub returns : goal.returns
returns c =
    let same : to_z w64 (of_z w64 c.args.why.value) ≡ c.args.why.value = search rules in
    let last = rw same at c.put_integer.ensures in
    refusal_line (omega arith) c.put_byte-mark.ensures c.put_byte-number.ensures (cell_before (omega (arith, c.put_byte-mark.ensures.offset, c.put_byte-mark.auto.out, c.put_byte-number.ensures.offset, c.put_byte-number.auto.out)) c.put_count-place.ensures (cell_before (omega (arith, c.put_byte-mark.ensures.offset, c.put_byte-mark.auto.out, c.put_byte-number.ensures.offset, c.put_byte-number.auto.out, ends c.put_count-place.ensures, c.put_count-place.auto.out)) c.put_count-value.ensures (last_cell last)))
