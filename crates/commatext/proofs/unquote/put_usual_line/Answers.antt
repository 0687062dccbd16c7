-- `commatext::unquote::put_usual_line` meets its promise.
use Rattle.commatext.specs.UnquoteLaws.{puts_line}
use Rattle.commatext.proofs.unquote.put_usual_line.Goals as goal

pub returns : goal.returns
returns c = puts_line _ _ _ c.requires.0 c.requires.1 c.requires.2 c.put_usual-n.ensures c.put_usual.ensures
