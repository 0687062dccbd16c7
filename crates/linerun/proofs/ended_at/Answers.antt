-- `linerun::ended_at` meets its promise.
use Rattle.linerun.specs.Promise.{EndsAt}
use Rattle.linerun.proofs.ended_at.Goals as goal

pub returns-then-at-count : goal.returns-then-at-count
returns-then-at-count c = rw c.state_at.ensures (EndsAt.within c.if-at-count.true)

pub returns : goal.returns
returns c = rw c.state_at-2.ensures (EndsAt.used_up c.if-at-count.false)
