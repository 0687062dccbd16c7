-- `listing::list_block` meets its promise. The loop's invariant is `Reaches`: what is still to come leads from where the block was begun. The measure is what is left of the block.
use Rattle.listing.specs.Promise.{Lists}
use Rattle.listing.specs.Laws.{reaches_start, reaches_on, next_grows}
use borrow.Author.Tests.{leb-true, leb-false}
use mathlib.Core.Path.{sym, ◌∙◌}
use native.Mathlib.Omega.{arith}
use borrow.Author.Rules.{rules}
use Rattle.listing.proofs.list_block.Goals as goal

pub loop-p-init : goal.loop-p-init
loop-p-init c = reaches_start _ _

pub list_next-p-requires : goal.list_next-p-requires
list_next-p-requires c = (c.loop-p-test.true, leb-true _ _ (sym c.has_room.ensures ∙ c.if-has_room.true))

pub loop-p-smaller : goal.loop-p-smaller
loop-p-smaller c = omega (arith, next_grows c.list_next-p.ensures c.loop-p-test.true, c.loop-p-test.true)

pub loop-p-preserved : goal.loop-p-preserved
loop-p-preserved c = reaches_on c.loop-p.invariant c.loop-p-test.true (leb-true _ _ (sym c.has_room.ensures ∙ c.if-has_room.true)) c.list_next-p.ensures (search rules)

pub returns-else-has_room : goal.returns-else-has_room
returns-else-has_room c = c.loop-p.invariant.onward _ (Lists.out_of_room (leb-false _ _ (sym c.has_room.ensures ∙ c.if-has_room.false)))

pub returns-after-loop-p : goal.returns-after-loop-p
returns-after-loop-p c = c.loop-p.invariant.onward _ (Lists.block_ends c.loop-p-test.false)
