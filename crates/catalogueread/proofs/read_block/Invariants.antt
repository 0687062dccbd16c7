-- The loop's invariant is `Leads`: what is still to come leads from where the block was begun. The measure is what is left of the block.
use Prim.Native.Nat.{◌-◌}
use lib.ListN.{length}
use Rattle.catalogueread.specs.Promise.{read_state}
use Rattle.catalogueread.specs.Laws.{Leads}
use Rattle.catalogueread.proofs.read_block.Given as goal

abbrev pub invariant-loop-p : goal.invariant-loop-p
invariant-loop-p l = Leads l.block (read_state l.initial.p.at l.initial.names l.initial.p.lines l.initial.line l.initial.p.held) (read_state l.p.at l.names l.p.lines l.line l.p.held)

abbrev pub decreases-loop-p : goal.decreases-loop-p
decreases-loop-p l = length l.block - l.p.at
