-- `linetext::put_style` meets its promise: two letters and the newline, one after the other.
use Rattle.linetext.specs.Laws.{put_letters}
use Rattle.linetext.proofs.put_style.Goals as goal

pub returns : goal.returns
returns c = put_letters c.args.style c.requires c.put_byte-second.ensures c.put_byte-third.ensures c.put_byte.ensures
