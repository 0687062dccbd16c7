-- `linetext::put_apart` meets its promise.
use Rattle.linetext.specs.Laws.{lined, apart_put}
use Rattle.linetext.proofs.put_apart.Goals as goal

pub returns : goal.returns
returns c = rw c.ok_or.ensures.value (apart_put (lined c.put_either-size.ensures) _ c.copy_text.ensures c.refusal_with.ensures)
