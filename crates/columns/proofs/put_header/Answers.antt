-- `columns::put_header` meets its promise: its bytes are those of the header.
use Rattle.columns.specs.Laws.{header_put}
use mathlib.Core.Path.{refl}
use Rattle.columns.specs.Columns.{header}
use Rattle.whole.specs.Text.{bytes}
use Rattle.columns.proofs.put_header.Goals as goal

pub returns : goal.returns
unfolding header bytes
returns c = rw c.ok_or.ensures.value (header_put refl refl _ c.copy_text.ensures c.refusal_with.ensures)
