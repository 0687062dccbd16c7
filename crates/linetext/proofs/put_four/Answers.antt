-- `linetext::put_four` meets its promise: the digits before the last two, and those (`put_pair`).
use Rattle.linetext.specs.Laws.{put_pair}
use Rattle.linetext.proofs.put_four.Goals as goal

pub returns : goal.returns
returns c = put_pair 2 c.args.n c.requires.0 c.put_two-next.ensures c.put_two.ensures
