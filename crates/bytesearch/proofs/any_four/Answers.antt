-- `bytesearch::any_four` meets its promise: an answer 0 is made of answers 0 (`or_none`).
use Rattle.bytesearch.specs.Laws.{or_none, past_four}
use Rattle.bytesearch.proofs.any_four.Goals as goal

pub returns : goal.returns
returns c e =
    let (w, x, y, z) = or_none c.one.result c.one-2.result c.one-3.result c.one-4.result e in
    past_four c.requires (c.one.ensures w) (c.one-2.ensures x) (c.one-3.ensures y) (c.one-4.ensures z)
