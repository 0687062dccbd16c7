-- `listrun::begin` meets its promise.
use Rattle.listrun.specs.Laws.{begins_with}
use Rattle.listrun.proofs.begin.Goals as goal

pub returns : goal.returns
returns c = begins_with c.told-out c.put_header.ensures c.unwrap_or-used.ensures c.state_with.ensures
