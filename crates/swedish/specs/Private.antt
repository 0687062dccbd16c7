-- What the private functions say: a month in one reckoning, the refusal of a label that no day bears, and the label of a day by its place in a year.
-- Assumes nothing.
use Rattle.std.specs.Prelude.{◌≡◌, Bool, ℕ, ◌≤◌}
use Rattle.days.specs.DayByDay.{label, Swedish, labels}
use Rattle.days.specs.BiasedDays.{day, year}
use Rattle.days.specs.ClosedRuns.{month_first_value, month_past}
use Rattle.days.specs.SwedishMonths.{SwedishGap}
use Rattle.monthdays.specs.Promise.{MonthDayAt}
use Rattle.swedish.specs.Promise.{label_at}

-- the month m of the biased year y in a calendar that switches on day r: its first day, and the first day past it
abbrev pub Plain : ℕ → ℕ → ℕ → ℕ → ℕ → Type 0
Plain r y m a b = (a ≡ month_first_value r y m) × (b ≡ month_past r y m)

-- the number of the refusal
pub data Refuses (y m d : ℕ) : ℕ → Type 0 where
  in_a_gap : SwedishGap (label (year y) m d) → Refuses y m d 5
  in_none : ¬ SwedishGap (label (year y) m d) → Refuses y m d 4

-- day k has the label of the place o in the raised year y, which is leap or not
pub record Labelled (k y o : ℕ) (leap : Bool) : Type 0 where
  pub from : 1 ≤ o
  pub label_at_lem : (m d : ℕ) → MonthDayAt leap o m d → labels Swedish (day k) ≡ label_at y m d
