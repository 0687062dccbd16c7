-- `importing::put_fault` meets its promise: with room for the longest line nothing is refused.
use Rattle.importing.specs.Laws.{fault_wrote, fault_told}
use Rattle.importing.proofs.put_fault.Goals as goal

pub unwrap-requires : goal.unwrap-requires
unwrap-requires c = fault_told _ c.requires c.put_refused.ensures

pub returns : goal.returns
returns c = fault_wrote (rw (c.refusal_at.ensures, c.unwrap.ensures) at c.put_refused.ensures)
