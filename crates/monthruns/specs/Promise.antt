-- What `runs_of` promises: the days that a month of the unbounded calendar has, as runs of days of the month.
-- Assumes nothing.
use Rattle.std.specs.Prelude.{◌⊎◌, ℕ, ◌+◌, ◌<◌, ◌≤◌, ℤ, Result, Ok}
use Rattle.days.specs.DayByDay.{Label, label, Borne}
use Rattle.calendar.specs.declared.Calendar.{Calendar}
use Rattle.calendar.specs.Calendars.{labels}
use Rattle.months.specs.Promise.{OfAMonth}
use Rattle.monthruns.specs.declared.Run.{Run}
use Rattle.monthruns.specs.declared.Runs.{Runs}
use Rattle.monthruns.specs.declared.Runs.TheVariants.{Nothing, One, Two}
use Rattle.refusals.specs.declared.Refusal.{Refusal}

-- d is a day of the run; of one of the runs
abbrev pub InRun : Run → ℕ → Type 0
InRun a d = (a.first ≤ d) × (d ≤ a.last)

abbrev pub InRuns : Runs → ℕ → Type 0
InRuns Nothing d = ⊥
InRuns (One a) d = InRun a d
InRuns (Two a b) d = InRun a d ⊎ InRun b d

-- each run has a day, and between two runs at least one number is left out
abbrev pub Apart : Runs → Type 0
Apart Nothing = Unit {0}
Apart (One a) = a.first ≤ a.last
Apart (Two a b) = (a.first ≤ a.last) × (b.first ≤ b.last) × (a.last + 1 < b.first)

-- the runs are apart, and d is a day of them exactly if some day is of the year y and the month m and has the day of the month d
pub record HasRuns (f : ℤ → Label) (y : ℤ) (m : ℕ) (r : Runs) : Type 0 where
  pub apart : Apart r
  pub in_runs : (d : ℕ) → Borne f (label y m d) → InRuns r d
  pub borne : (d : ℕ) → InRuns r d → Borne f (label y m d)

-- the answer is the runs of the month
pub data AreRuns (f : ℤ → Label) (y : ℤ) (m : ℕ) : Result Runs Refusal → Type 0 where
  are_runs : {r : Runs} → HasRuns f y m r → AreRuns f y m (Ok r)

-- runs_of: 16, 3, or the runs
abbrev pub RunsOf : Calendar → ℤ → ℕ → Result Runs Refusal → Type 0
RunsOf c y m = OfAMonth c m (AreRuns (labels c) y m)
