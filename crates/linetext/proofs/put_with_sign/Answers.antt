-- `linetext::put_with_sign` meets its promise.
use Rattle.linetext.specs.Laws.{put_minus}
use Rattle.linetext.proofs.put_with_sign.Goals as goal

pub returns-then-negative : goal.returns-then-negative
returns-then-negative c = put_minus c.if-negative.true c.requires c.put_byte-next.ensures c.put_natural.ensures
