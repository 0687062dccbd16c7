-- `textlines::add_to_line` meets its promise: the bytes fit, and stand after those that were held; or the line is too long.
use native.Mathlib.Omega.{arith}
use Rattle.textlines.specs.Laws.{adds_copied}
use Rattle.textlines.proofs.add_to_line.Goals as goal

pub returns : goal.returns
returns c = rw c.unwrap_or.ensures (adds_copied _ (omega arith) c.copy_text.ensures)
