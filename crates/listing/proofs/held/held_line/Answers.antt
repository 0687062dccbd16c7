-- `listing::held::held_line` meets its promise.
use Rattle.listing.specs.Promise.{HeldAnswer, HeldAs}
use native.Mathlib.Omega.{arith}
use Rattle.listing.proofs.held.held_line.Goals as goal

pub returns : goal.returns
returns c = rw c.line_of.ensures (HeldAs.held_as (HeldAnswer.short (omega arith) c.line_answer.ensures))
