-- `calendar::record::julian_month` meets its promise.
use native.Mathlib.Omega.{arith}
use Rattle.inner.specs.Natural.{biased_year_value}
use Rattle.switches.specs.Laws.{ordinal_some, month_has_first}
use Rattle.calendar.specs.Laws.{julian_month_is}
use Rattle.calendar.proofs.record.julian_month.Goals as goal

pub overflow_sub-result : goal.overflow_sub-result
overflow_sub-result c = omega (arith, ordinal_some c.in-Some.ensures)

pub returns-in-Some : goal.returns-in-Some
returns-in-Some c = julian_month_is (biased_year_value c.args.year) c.is_julian_leap.ensures c.julian_start.ensures c.in-Some.ensures

pub returns-in-None : goal.returns-in-None
returns-in-None c = absurd (month_has_first c.requires c.in-None.ensures)
