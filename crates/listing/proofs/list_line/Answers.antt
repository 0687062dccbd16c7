-- `listing::list_line` meets its promise.
use Rattle.listing.specs.Laws.{listed_as}
use Rattle.listing.proofs.list_line.Goals as goal

pub returns : goal.returns
returns c = listed_as c.line_answer-answer.ensures (rw c.line_of.ensures at c.put_line.ensures)
