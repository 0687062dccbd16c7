-- `linetext::put_last_five` meets its promise: four numbers and the letters, joined from the last one on.
use Rattle.linetext.specs.Laws.{letters_after, cell_before, ends}
use native.Mathlib.Omega.{arith}
use Rattle.linetext.proofs.put_last_five.Goals as goal

pub returns : goal.returns
returns c =
    cell_before (omega arith) c.put_count-second.ensures
    (cell_before (omega (arith, ends c.put_count-second.ensures, c.put_count-second.auto.out)) c.put_count-third.ensures
    (cell_before (omega (arith, ends c.put_count-second.ensures, c.put_count-second.auto.out, ends c.put_count-third.ensures, c.put_count-third.auto.out)) c.put_count-fourth.ensures
    (letters_after _ (omega (arith, ends c.put_count-second.ensures, c.put_count-second.auto.out, ends c.put_count-third.ensures, c.put_count-third.auto.out, ends c.put_count-fourth.ensures, c.put_count-fourth.auto.out)) c.put_count-fifth.ensures c.put_style.ensures)))
