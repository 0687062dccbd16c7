-- `linerun::last_turn` meets its promise.
use Rattle.linerun.specs.Laws.{last_some, last_none}
use Rattle.linerun.proofs.last_turn.Goals as goal

pub returns-then-held-gt0 : goal.returns-then-held-gt0
returns-then-held-gt0 c = rw c.state_with-state.ensures (last_some c.args.held c.if-held-gt0.true)

pub returns : goal.returns
returns c = rw c.state_with-state.ensures (last_none c.args.held c.if-held-gt0.false)
