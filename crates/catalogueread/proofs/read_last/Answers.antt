-- `catalogueread::read_last` meets its promise.
use native.Mathlib.Omega.{arith}
use Rattle.catalogueread.specs.Laws.{last_made_up, last_none}
use Rattle.catalogueread.proofs.read_last.Goals as goal

pub returns-then-lines-gt-LINES : goal.returns-then-lines-gt-LINES
returns-then-lines-gt-LINES c = rw c.refusal_at.ensures (last_made_up (omega arith) c.if-lines-gt-LINES.true)

pub returns : goal.returns
returns c = last_none (omega arith) c.if-lines-gt-LINES.false
