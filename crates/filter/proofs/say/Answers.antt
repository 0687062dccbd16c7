-- `filter::say` meets its promise.
use Rattle.filter.specs.Laws.{message}
use Rattle.filter.proofs.say.Goals as goal

pub returns : goal.returns
returns c = message _ c.copy_text.ensures c.unwrap_or-used.ensures c.state_with.ensures
