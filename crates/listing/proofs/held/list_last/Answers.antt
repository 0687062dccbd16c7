-- `listing::held::list_last` meets its promise.
use Rattle.listing.specs.Laws.{last_held, last_none}
use native.Mathlib.Omega.{arith}
use Rattle.listing.proofs.held.list_last.Goals as goal

pub returns : goal.returns
returns c = last_none (omega arith) c.copy_text.ensures c.refusal_with.ensures c.ok_or.ensures.value

pub returns-then-held-gt0 : goal.returns-then-held-gt0
returns-then-held-gt0 c = last_held c.if-held-gt0.true c.held_line.ensures c.put_line.ensures
