-- What `span_of` and the private function say, of days and years that are biased as naturals.
use Rattle.std.specs.Prelude.{◌≡◌, cond, ℕ, ◌+◌, ◌-◌, ◌≤◌, ◌<◌, ◌^◌, ltb, ℤ, pos, Result, Ok, Err}
use Rattle.days.specs.BiasedDays.{year, BiasedYear}
use Rattle.days.specs.ClosedRuns.{Runs, top}
use Rattle.days.specs.DayByDay.{Month}
use Rattle.switches.specs.declared.MonthSpan.{MonthSpan}
use Rattle.switches.specs.Promise.{month_span}
use Rattle.calendar.specs.declared.Calendar.{Calendar}
use Rattle.calendar.specs.Calendars.{definition_of, Accepted}
use Rattle.calendar.specs.Promise.{refusal, made_up}
use Rattle.refusals.specs.declared.Refusal.{Refusal}

-- the month m of the year z of an accepted calendar
pub record SpanOf (c : Calendar) (z : ℤ) (m : ℕ) (s : MonthSpan) : Type 0 where
  pub y : ℕ
  pub runs : Runs (definition_of c) s.switch
  pub year_biased : BiasedYear y
  pub year_is : year y ≡ z
  pub is_month : Month m
  pub span : s ≡ month_span s.switch y m

-- it, or why there is none
pub data Spans (c : Calendar) (z : ℤ) (m : ℕ) : Result MonthSpan Refusal → Type 0 where
  spanned : {s : MonthSpan} → SpanOf c z m s → Spans c z m (Ok s)
  no_calendar : ¬ Accepted c → Spans c z m (Err made_up)
  no_month : Accepted c → ¬ Month m → Spans c z m (Err (refusal 3 (pos m)))

-- a biased day is of the month, and in the Gregorian one where it is not before the day on which the calendar switches
pub record Inside (s : MonthSpan) (k : ℕ) : Type 0 where
  pub from : s.first ≤ k
  pub few : k + 1 - s.first < 2 ^ 32
  pub new : s.switch ≤ k → (s.gregorian ≤ k) × (k < s.gregorian + 31)
  pub room : k < top

-- and has this day of the month there
abbrev pub day_in_value : MonthSpan → ℕ → ℕ
day_in_value s k = cond (ltb k s.switch) (k + 1 - s.first) (k + 1 - s.gregorian)
