-- `linetext::put_two` meets its promise: the two bytes of its word are the two digits (`put_word`).
use Rattle.linetext.specs.Laws.{put_word}
use Rattle.linetext.proofs.put_two.Goals as goal

pub returns : goal.returns
returns c = put_word c.args.n c.requires.1 c.requires.0 c.put_byte-next.ensures c.put_byte.ensures
