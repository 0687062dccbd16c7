-- `linetext::put_count` meets its promise.
use Rattle.linetext.specs.Laws.{count_column}
use Rattle.linetext.proofs.put_count.Goals as goal

pub returns : goal.returns
returns c = count_column c.requires c.put_few-next.ensures c.put_byte.ensures
