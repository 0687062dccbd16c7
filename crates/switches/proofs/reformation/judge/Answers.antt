-- `switches::reformation::judge` meets its promise, row by row of the table.
use mathlib.Core.Path.{◌≡◌, ◌∙◌}
use Prim.Native.Nat.{◌^◌}
use mir.Facts.{to_z-of_z}
use Rattle.whole.specs.Promise.{unbias}
use Rattle.switches.specs.JudgingLaws.{least, before_julian_days, before_the_first, between, past_the_last}
use Rattle.switches.proofs.reformation.judge.Goals as goal
use Rattle.switches.proofs.reformation.judge.Goals.{After-raised}

biased : (c : After-raised) → unbias (2 ^ 31) c.raised.result ≡ c.args.r
biased c = c.raised.ensures ∙ to_z-of_z c.ranges.r

pub returns-then-day-lt-FIRST_AFTER_A_DAY : goal.returns-then-day-lt-FIRST_AFTER_A_DAY
returns-then-day-lt-FIRST_AFTER_A_DAY c = least c.raised.result (biased (goal.at.returns-then-day-lt-FIRST_AFTER_A_DAY c).After-raised) c.raised.type_inv c.if-day-lt-FIRST_AFTER_A_DAY.true

pub returns-then-day-lt-FIRST_TO_FIT : goal.returns-then-day-lt-FIRST_TO_FIT
returns-then-day-lt-FIRST_TO_FIT c = before_julian_days c.raised.result (biased (goal.at.returns-then-day-lt-FIRST_TO_FIT c).After-raised) c.raised.type_inv c.if-day-lt-FIRST_AFTER_A_DAY.false c.if-day-lt-FIRST_TO_FIT.true

pub returns-then-day-lt-FIRST_REFORMATION : goal.returns-then-day-lt-FIRST_REFORMATION
returns-then-day-lt-FIRST_REFORMATION c = before_the_first c.raised.result (biased (goal.at.returns-then-day-lt-FIRST_REFORMATION c).After-raised) c.raised.type_inv c.if-day-lt-FIRST_TO_FIT.false c.if-day-lt-FIRST_REFORMATION.true

pub returns-then-day-gt-LAST_REFORMATION : goal.returns-then-day-gt-LAST_REFORMATION
returns-then-day-gt-LAST_REFORMATION c = past_the_last c.raised.result (biased (goal.at.returns-then-day-gt-LAST_REFORMATION c).After-raised) c.raised.type_inv c.if-day-gt-LAST_REFORMATION.true

pub returns : goal.returns
returns c = between c.raised.result (biased (goal.at.returns c).After-raised) c.raised.type_inv c.if-day-lt-FIRST_REFORMATION.false c.if-day-gt-LAST_REFORMATION.false
