-- `linetext::put_line` meets its promise.
use Rattle.linetext.specs.Laws.{lined, text_wrote}
use borrow.Author.Tests.{leb-true}
use mathlib.Core.Path.{sym, ◌∙◌}
use Rattle.linetext.proofs.put_line.Goals as goal

pub returns-then-has_room : goal.returns-then-has_room
returns-then-has_room c = text_wrote (leb-true _ _ (sym c.has_room.ensures ∙ c.if-has_room.true)) (lined c.put_either-end.ensures)
