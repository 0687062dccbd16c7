-- `linetext::put_three` meets its promise: the digits before the last two, and those (`put_pair`).
use Rattle.linetext.specs.Laws.{put_pair}
use Rattle.linetext.proofs.put_three.Goals as goal

pub returns : goal.returns
returns c = put_pair 1 c.args.n c.requires c.put_digit-next.ensures c.put_two.ensures
