-- The day of a label in one calendar, by arithmetic on the naturals that days and years are biased as: its number, and that a label with no number is borne by no day.
-- Assumes nothing.
use Rattle.std.specs.Prelude.{Bool, cond, ℕ, ◌+◌, ◌-◌, ◌*◌, ◌/◌, ◌≤◌, ltb}
use Rattle.days.specs.DayByDay.{month_length}

-- the days of a year before its month m
abbrev pub days_before_value : Bool → ℕ → ℕ
days_before_value leap m = (367 * m - 362) / 12 - cond (ltb 2 m) (cond leap 1 2) 0

-- day d of month m is there, in a year that is leap or not
abbrev pub ThereIn : Bool → ℕ → ℕ → Type 0
ThereIn leap m d = (1 ≤ m) × (m ≤ 12) × (1 ≤ d) × (d ≤ month_length leap m)

-- in the year y the day d of the month m is there
abbrev pub There : (ℕ → Bool) → ℕ → ℕ → ℕ → Type 0
There leap_at y = ThereIn (leap_at y)

-- its day number
abbrev pub number : (ℕ → Bool) → (ℕ → ℕ) → ℕ → ℕ → ℕ → ℕ
number leap_at start y m d = start y + days_before_value (leap_at y) m + d - 1

-- the month of the o-th day of a year: if February had 30 days, the months would go by 367 / 12 days
abbrev pub to_thirty_value : Bool → ℕ → ℕ
to_thirty_value leap o = cond (ltb (cond leap 60 59) o) (cond leap 1 2) 0

abbrev pub month_at : Bool → ℕ → ℕ
month_at leap o = (12 * (o + to_thirty_value leap o) + 361) / 367
