-- `listrun::refuse` meets its promise.
use Rattle.listrun.specs.Laws.{refuses_with}
use Rattle.listrun.proofs.refuse.Goals as goal

pub returns : goal.returns
returns c = refuses_with c.told-out c.put_header.ensures c.unwrap_or-at.ensures c.put_refused.ensures c.unwrap_or-used.ensures c.state_with.ensures
