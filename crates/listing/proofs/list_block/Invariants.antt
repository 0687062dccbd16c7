-- `listing::list_block` meets its promise. The loop's invariant is `Reaches`: what is still to come leads from where the block was begun. The measure is what is left of the block.
use Rattle.listing.specs.Promise.{block_state}
use Rattle.listing.specs.Laws.{Reaches}
use Rattle.catalogue.specs.Promise.{NamesIn}
use lib.ListN.{length}
use Prim.Native.Nat.{◌-◌}
use Rattle.listing.proofs.list_block.Given as goal

abbrev pub invariant-loop-p : goal.invariant-loop-p
invariant-loop-p l = Reaches (NamesIn l.names) l.block (block_state l.from l.initial.line l.held l.initial.out l.used) (block_state l.p.at l.line l.p.held l.out l.p.used)

abbrev pub decreases-loop-p : goal.decreases-loop-p
decreases-loop-p l = length l.block - l.p.at
