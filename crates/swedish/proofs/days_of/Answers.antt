-- `swedish::days_of` meets its promise, stretch by stretch.
use Prim.Native.Nat.{ℕ, ◌<◌, ◌≤◌}
use native.Mathlib.Omega.{arith}
use Rattle.days.specs.DayByDay.{Month}
use Rattle.days.specs.BiasedDays.{BiasedYear}
use Rattle.days.specs.SwedishMonths.{old_month, february_1700, moved_month, february_1712, again_month, february_1753}
use Rattle.inner.specs.Natural.{biased_year_value}
use Rattle.inner.specs.Laws.{raised_year_biased}
use Rattle.swedish.specs.Laws.{new_days, old_bounds, old_days, cut_days, moved_days, leap_days}
use Rattle.swedish.proofs.days_of.Goals as goal
use Rattle.swedish.proofs.days_of.Goals.{After-plain-old}

-- the Julian month
abbrev year-of : After-plain-old → ℕ
year-of o = biased_year_value o.args.year

abbrev month_of : After-plain-old → ℕ
month_of o = o.args.month

is_month : (o : After-plain-old) → Month (month_of o)
is_month o = o.requires

biased : (o : After-plain-old) → BiasedYear (year-of o)
biased o = raised_year_biased o.ranges.year.fits

bounds : (o : After-plain-old) → (1 ≤ o.plain-old.result.first) × (o.plain-old.result.first ≤ o.plain-old.result.past) × (o.plain-old.result.past < 1_600_000_000_367)
bounds o = old_bounds (year-of o) (month_of o) (is_month o) (biased o) o.plain-old.ensures

pub returns-then-count-ge-MARCH_1753 : goal.returns-then-count-ge-MARCH_1753
returns-then-count-ge-MARCH_1753 c = new_days (biased_year_value c.args.year) c.args.month c.requires (raised_year_biased c.ranges.year.fits) c.plain.ensures (omega arith)

pub returns-then-count : goal.returns-then-count
returns-then-count c = let o = (goal.at.returns-then-count c).After-plain-old in old_days (year-of o) (month_of o) (is_month o) (biased o) o.plain-old.ensures (old_month (omega arith))

pub overflow_add-result : goal.overflow_add-result
overflow_add-result c = record { fits = omega (arith, bounds (goal.at.overflow_add-result c).After-plain-old) }

pub returns-then-count-lt-MARCH_1700 : goal.returns-then-count-lt-MARCH_1700
returns-then-count-lt-MARCH_1700 c = let o = (goal.at.returns-then-count-lt-MARCH_1700 c).After-plain-old in cut_days (year-of o) (month_of o) (is_month o) (biased o) 28 o.plain-old.ensures (february_1700 (omega arith) (omega arith))

pub overflow_sub-result : goal.overflow_sub-result
overflow_sub-result c = (bounds (goal.at.overflow_sub-result c).After-plain-old).0

pub overflow_sub-result-then-count-2 : goal.overflow_sub-result-then-count-2
overflow_sub-result-then-count-2 c = omega (arith, bounds (goal.at.overflow_sub-result-then-count-2 c).After-plain-old)

pub returns-then-count-2 : goal.returns-then-count-2
returns-then-count-2 c = let o = (goal.at.returns-then-count-2 c).After-plain-old in moved_days (year-of o) (month_of o) (is_month o) (biased o) o.plain-old.ensures (moved_month (omega arith) (omega arith))

pub overflow_sub-result-then-count-lt-MARCH_1712 : goal.overflow_sub-result-then-count-lt-MARCH_1712
overflow_sub-result-then-count-lt-MARCH_1712 c = (bounds (goal.at.overflow_sub-result-then-count-lt-MARCH_1712 c).After-plain-old).0

pub overflow_add-result-then-count-lt-MARCH_1712 : goal.overflow_add-result-then-count-lt-MARCH_1712
overflow_add-result-then-count-lt-MARCH_1712 c = record { fits = omega (arith, bounds (goal.at.overflow_add-result-then-count-lt-MARCH_1712 c).After-plain-old) }

pub returns-then-count-lt-MARCH_1712 : goal.returns-then-count-lt-MARCH_1712
returns-then-count-lt-MARCH_1712 c = let o = (goal.at.returns-then-count-lt-MARCH_1712 c).After-plain-old in leap_days (year-of o) (month_of o) (is_month o) (biased o) o.plain-old.ensures (february_1712 (omega arith) (omega arith))

pub returns-then-count-3 : goal.returns-then-count-3
returns-then-count-3 c = let o = (goal.at.returns-then-count-3 c).After-plain-old in old_days (year-of o) (month_of o) (is_month o) (biased o) o.plain-old.ensures (again_month (omega arith) (omega arith))

pub overflow_add-result-2 : goal.overflow_add-result-2
overflow_add-result-2 c = record { fits = omega (arith, bounds (goal.at.overflow_add-result-2 c).After-plain-old) }

pub returns : goal.returns
returns c = let o = (goal.at.returns c).After-plain-old in cut_days (year-of o) (month_of o) (is_month o) (biased o) 17 o.plain-old.ensures (february_1753 (omega arith) (omega arith))
