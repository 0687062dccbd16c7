-- `inner::day_number` meets its promise.
use Rattle.inner.specs.Laws.{lowers_below, lowers_above, lowers_within}
use Rattle.inner.proofs.day_number.Goals as goal

pub returns-then-day-lt-LEAST_DAY : goal.returns-then-day-lt-LEAST_DAY
returns-then-day-lt-LEAST_DAY c = lowers_below c.if-day-lt-LEAST_DAY.true

pub returns-then-day-ge786514293590 : goal.returns-then-day-ge786514293590
returns-then-day-ge786514293590 c = lowers_above c.if-day-ge786514293590.true

pub returns : goal.returns
returns c = lowers_within c.if-day-lt-LEAST_DAY.false c.if-day-ge786514293590.false c.lowered.ensures
