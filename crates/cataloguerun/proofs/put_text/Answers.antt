-- `cataloguerun::put_text` meets its promise.
use Rattle.cataloguerun.specs.Laws.{text_put}
use Rattle.cataloguerun.proofs.put_text.Goals as goal

pub returns : goal.returns
returns c = rw c.unwrap_or.ensures (text_put _ c.requires c.copy_text.ensures)
