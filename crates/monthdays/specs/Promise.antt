-- What is promised of the days of a year and of its months, in the words of the day-by-day definition; and of the places in a year by arithmetic.
-- Assumes nothing.
use Rattle.std.specs.Prelude.{◌≡◌, Bool, ℕ, ◌+◌, ◌-◌, ◌≤◌, ℤ, pos, Option, Some, None}
use Rattle.days.specs.DayByDay.{label, LeapRule, next_label, prev_label, stepping}
use Rattle.days.specs.ClosedNumbers.{days_before_value, month_at}

-- in a year that is leap, or not, day d of month m comes o - 1 days after 1 January
pub record OfOrdinal (leap : Bool) (o m d : ℕ) : Type 0 where
  pub from : 1 ≤ o
  pub comes : (rule : LeapRule) (y : ℤ) → rule y ≡ leap → stepping (next_label rule) (prev_label rule) (label y 1 1) (pos (o - 1)) ≡ label y m d

-- the month and the day of an ordinal, or there are none
pub data MonthDayOf (leap : Bool) (o : ℕ) : Option (ℕ × ℕ) → Type 0 where
  month_day : {m d : ℕ} → OfOrdinal leap o m d → MonthDayOf leap o (Some (m, d))
  no_month_day : ((m d : ℕ) → ¬ OfOrdinal leap o m d) → MonthDayOf leap o None

-- the ordinal of a month and a day, or there is none
pub data OrdinalOf (leap : Bool) (m d : ℕ) : Option ℕ → Type 0 where
  ordinal : {o : ℕ} → OfOrdinal leap o m d → OrdinalOf leap m d (Some o)
  no_ordinal : ((o : ℕ) → ¬ OfOrdinal leap o m d) → OrdinalOf leap m d None

-- day d of month m has the place o in a year; past the year's end, in months that would follow by the same arithmetic
pub record MonthDayAt (leap : Bool) (o m d : ℕ) : Type 0 where
  pub month_is : m ≡ month_at leap o
  pub day_is : days_before_value leap m + d ≡ o
