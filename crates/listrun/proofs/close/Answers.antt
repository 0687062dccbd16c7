-- `listrun::close` meets its promise.
use Rattle.listrun.specs.Laws.{closes_with}
use Rattle.listrun.proofs.close.Goals as goal

pub returns : goal.returns
returns c = closes_with c.told-out c.list_last.ensures c.unwrap_or-used.ensures c.state_with.ensures
