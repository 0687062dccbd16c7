-- `listing::put_held` meets its promise: with room for the longest line nothing is refused.
use Rattle.listing.specs.Laws.{held_wrote}
use Rattle.listing.proofs.put_held.Goals as goal

pub returns : goal.returns
returns c = rw c.unwrap_or.ensures (held_wrote _ c.requires c.held_line.ensures c.put_line.ensures)
