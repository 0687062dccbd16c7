-- What is promised of days and years that are biased as naturals and of a calendar that switches on the biased day r; and on which days it can.
-- Assumes nothing.
use Rattle.std.specs.Prelude.{◌≡◌, ℕ, ◌+◌, ◌≤◌, ◌<◌, ltb, leb, ℤ, pos, Result, Ok, Err}
use Rattle.refusals.specs.Promise.{refusal}
use Rattle.days.specs.DayByDay.{Month}
use Rattle.days.specs.BiasedDays.{day}
use Rattle.days.specs.ClosedJulian as J
use Rattle.days.specs.ClosedGregorian as G
use Rattle.days.specs.ClosedNumbers.{There, number}
use Rattle.days.specs.ClosedRuns.{top, year_first, gregorian_month, gregorian_past, ComesBefore, month_first_value, month_past}
use Rattle.days.specs.ReformationRules.{accepted, refused_1, refused_2, Judged}
use Rattle.inner.specs.Natural.{biased_year_value}
use Rattle.inner.specs.Spots.{At, spot}
use Rattle.switches.specs.declared.PlainYear.{PlainYear}
use Rattle.switches.specs.declared.MonthSpan.{MonthSpan}
use Rattle.refusals.specs.declared.Refusal.{Refusal}
use Rattle.inner.specs.declared.Spot.{Spot}
use Rattle.switches.specs.declared.reformation.ReformingError.{ReformingError}
use Rattle.switches.specs.declared.reformation.ReformingError.TheVariants as ReformingError'

-- the first day of a biased year, and the first day past it
pub record YearSpan (r y a b : ℕ) : Type 0 where
  pub first_is : a ≡ year_first r y
  pub past_is : b ≡ year_first r (y + 1)
  pub first_room : a < top
  pub past_room : b < top

-- a biased year in the reckoning in which it begins: its first day, whether it is leap, and whether it is wholly in that reckoning
pub data YearIn (r y : ℕ) : PlainYear → Type 0 where
  begins_old : J.start y < r → YearIn r y (record { first = J.start y; leap = J.leap_at y; whole = ltb (J.start y + 366) r })
  begins_new : r ≤ J.start y → YearIn r y (record { first = G.start y; leap = G.leap_at y; whole = leb r (G.start y) })

-- the month m of a biased year: its first day, the first day past it, and the first day of that month in the Gregorian reckoning
abbrev pub month_span : ℕ → ℕ → ℕ → MonthSpan
month_span r y m = record { switch = r; first = month_first_value r y m; past = month_past r y m; gregorian = gregorian_month y m }

-- it, or 3 where there is no such month
pub data SpansMonth (r y m : ℕ) : Result MonthSpan Refusal → Type 0 where
  spans_month : Month m → SpansMonth r y m (Ok (month_span r y m))
  no_month : ¬ Month m → SpansMonth r y m (Err (refusal 3 0 (pos m)))

-- no Julian day before r bears the label
abbrev pub NoneBelow : ℕ → ℕ → ℕ → ℕ → Type 0
NoneBelow r y m d = There J.leap_at (biased_year_value y) m d → r ≤ number J.leap_at J.start (biased_year_value y) m d

-- where the Julian calendar has the label, its month is not over by day r in the Gregorian one
abbrev pub NotOver : ℕ → ℕ → ℕ → ℕ → Type 0
NotOver r y m d = There J.leap_at (biased_year_value y) m d → r < gregorian_past (biased_year_value y) m

-- the day of a label in the calendar: its Julian day where that is before r, and else its Gregorian day where that is not; 5 where it is
-- skipped, and 4 where it is nowhere
pub data Finds (r y m d : ℕ) : Result Spot Refusal → Type 0 where
  finds_old : {k o : ℕ} → k < r → At J.leap_at J.start k (biased_year_value y) m d o → Finds r y m d (Ok (spot k y o m d))
  finds_new : {k o : ℕ} → r ≤ k → At G.leap_at G.start k (biased_year_value y) m d o → NoneBelow r y m d → Finds r y m d (Ok (spot k y o m d))
  finds_gap : There J.leap_at (biased_year_value y) m d → r ≤ number J.leap_at J.start (biased_year_value y) m d → ComesBefore r (biased_year_value y) m d → Finds r y m d (Err (refusal 5 0 (pos d)))
  finds_none : ¬ There G.leap_at (biased_year_value y) m d → NoneBelow r y m d → NotOver r y m d → Finds r y m d (Err (refusal 4 0 (pos d)))

-- the number of the refusal of a label that the Gregorian calendar does not have and no Julian day before r bears: 5 where the Julian calendar
-- has it, and its month is over by day r in the Gregorian one; else 4
pub data RefusesNonGregorian (r y m d : ℕ) : ℕ → Type 0 where
  taken_away : There J.leap_at (biased_year_value y) m d → gregorian_past (biased_year_value y) m ≤ r → RefusesNonGregorian r y m d 5
  never_there : NotOver r y m d → RefusesNonGregorian r y m d 4

-- ---- A day of reformation: the number that it is biased as, or why it is refused

abbrev pub number_of : ReformingError → ℕ
number_of ReformingError'.InvalidReformation = 1
number_of ReformingError'.Arithmetic = 2

pub data Judges (r : ℤ) : Result ℕ ReformingError → Type 0 where
  accepts_biased : {k : ℕ} → Judged r accepted → day k ≡ r → Judges r (Ok k)
  refuses_with_1 : Judged r refused_1 → Judges r (Err ReformingError'.InvalidReformation)
  refuses_with_2 : Judged r refused_2 → Judges r (Err ReformingError'.Arithmetic)
