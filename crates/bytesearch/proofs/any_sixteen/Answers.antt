-- `bytesearch::any_sixteen` meets its promise: an answer 0 is made of answers 0 (`or_none`).
use Rattle.bytesearch.specs.Laws.{or_none, fours_passed}
use Rattle.bytesearch.proofs.any_sixteen.Goals as goal

pub returns : goal.returns
returns c e =
    let (w, x, y, z) = or_none c.any_four.result c.any_four-2.result c.any_four-3.result c.any_four-4.result e in
    fours_passed (c.any_four.ensures w) (c.any_four-2.ensures x) (c.any_four-3.ensures y) (c.any_four-4.ensures z)
