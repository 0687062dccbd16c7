-- `writer::buffer::copy_text` meets its promise.
use Rattle.writer.specs.Laws.{copied_to}
use Rattle.writer.specs.Promise.{no_room}
use borrow.Author.Tests.{leb-true, leb-false}
use mathlib.Core.Path.{sym, ◌∙◌}
use Rattle.writer.proofs.buffer.copy_text.Goals as goal

pub returns-then-has_room : goal.returns-then-has_room
returns-then-has_room c = copied_to (leb-true _ _ (sym c.has_room.ensures ∙ c.if-has_room.true)) c.put_bytes.ensures

pub returns-else-has_room : goal.returns-else-has_room
returns-else-has_room c = no_room (leb-false _ _ (sym c.has_room.ensures ∙ c.if-has_room.false))
