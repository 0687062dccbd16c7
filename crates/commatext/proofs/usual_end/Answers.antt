-- `commatext::usual_end` meets its promise.
use Rattle.commatext.specs.Laws.{ends_nothing, ends_text}
use Rattle.commatext.proofs.usual_end.Goals as goal

pub returns-then-from-s : goal.returns-then-from-s
returns-then-from-s c = ends_nothing c.requires

pub returns : goal.returns
returns c = ends_text c.run_end.ensures.along
