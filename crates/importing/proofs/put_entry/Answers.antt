-- `importing::put_entry` meets its promise: with room for the longest line nothing is refused.
use Rattle.importing.specs.Laws.{entry_wrote, entry_told}
use Rattle.importing.proofs.put_entry.Goals as goal

pub unwrap-requires : goal.unwrap-requires
unwrap-requires c = entry_told _ c.requires.0 c.requires.1 c.list_last.ensures

pub returns : goal.returns
returns c = entry_wrote c.requires.0 (rw c.unwrap.ensures at c.list_last.ensures)
