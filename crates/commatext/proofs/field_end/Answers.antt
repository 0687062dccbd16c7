-- `commatext::field_end` meets its promise.
use Rattle.commatext.specs.Laws.{field_closed, field_text}
use Rattle.commatext.proofs.field_end.Goals as goal

pub returns-then-quoted : goal.returns-then-quoted
returns-then-quoted c = field_closed c.if-quoted.true

pub returns : goal.returns
returns c = field_text c.if-quoted.false c.run_end.ensures
