-- `inner::is_gregorian_leap` meets its promise.
use Rattle.inner.specs.Natural.{biased_year_value}
use Rattle.inner.specs.Laws.{leap_by_4, leap_by_16}
use Rattle.inner.proofs.is_gregorian_leap.Goals as goal

pub returns-then-y-ne0 : goal.returns-then-y-ne0
returns-then-y-ne0 c = leap_by_4 (biased_year_value c.args.year) c.if-y-ne0.true

pub returns : goal.returns
returns c = leap_by_16 (biased_year_value c.args.year) c.if-y-ne0.false
