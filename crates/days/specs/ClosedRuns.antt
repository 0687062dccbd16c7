-- An accepted calendar as two runs of days that are biased as naturals: Julian below day r, Gregorian from it on. The Julian calendar has its r
-- above every such day, the Gregorian one below: so what is said here is said once for these three kinds, and a calendar has one r. From it:
-- which day bears a label, which labels are skipped, and the days of a year and of a month.
-- Assumes nothing.
use Rattle.std.specs.Prelude.{◌≡◌, cond, ℕ, ◌+◌, ◌<◌, ◌≤◌, ltb, ℤ}
use Rattle.days.specs.DayByDay.{label_of, julian, gregorian, month_length, Calendar, labels, JulianStyle, GregorianStyle, style, Accepted, AcceptedReformation, SwitchDay, timeline}
use Rattle.days.specs.BiasedDays.{day}
use Rattle.days.specs.ClosedJulian as J
use Rattle.days.specs.ClosedGregorian as G
use Rattle.days.specs.ClosedNumbers.{There, number, days_before_value}
use Rattle.days.specs.AcceptedCalendars.{EitherLabel}

-- no day that is looked at is biased as more
abbrev pub top : ℕ
top = 4_000_000_000_000

pub record Runs (c : Calendar) (r : ℕ) : Type 0 where
  pub accepted : Accepted c
  pub below : (k : ℕ) → k < r → k < top → (labels c (day k) ≡ label_of julian (day k)) × (style c (day k) ≡ JulianStyle)
  pub above : (k : ℕ) → r ≤ k → k < top → (labels c (day k) ≡ label_of gregorian (day k)) × (style c (day k) ≡ GregorianStyle)
  -- also a day that is not biased so has one of the two labels
  pub either : (n : ℤ) → EitherLabel c n
  pub switches : 1 ≤ r → r < top → SwitchDay (timeline c).switches (day r)
  pub reforms : 1 ≤ r → r < top → AcceptedReformation (day r)
  pub no_other : (d : ℤ) → SwitchDay (timeline c).switches d → d ≡ day r
  -- the r of a calendar that is never Gregorian is top itself, and nothing above it
  pub most : r ≤ top

-- the first day of a month in the two calendars, and the first day past it in the Gregorian one
abbrev pub julian_month_value : ℕ → ℕ → ℕ
julian_month_value y m = J.start y + days_before_value (J.leap_at y) m

abbrev pub gregorian_month : ℕ → ℕ → ℕ
gregorian_month y m = G.start y + days_before_value (G.leap_at y) m

abbrev pub gregorian_past : ℕ → ℕ → ℕ
gregorian_past y m = gregorian_month y m + month_length (G.leap_at y) m

-- in the Gregorian calendar a label comes before the one of day r: its own day comes before r, or its month is over by r
pub data ComesBefore (r y m d : ℕ) : Type 0 where
  day_before : There G.leap_at y m d → number G.leap_at G.start y m d < r → ComesBefore r y m d
  month_over : gregorian_past y m ≤ r → ComesBefore r y m d

-- the first day whose label is not before l, where l is on day j in the Julian calendar and on day g in the Gregorian one
abbrev pub first_day_value : ℕ → ℕ → ℕ → ℕ
first_day_value r j g = cond (ltb j r) j (cond (ltb g r) r g)

-- the first day of a year, of a month, and past a month
abbrev pub year_first : ℕ → ℕ → ℕ
year_first r y = first_day_value r (J.start y) (G.start y)

abbrev pub month_first_value : ℕ → ℕ → ℕ → ℕ
month_first_value r y m = first_day_value r (julian_month_value y m) (gregorian_month y m)

abbrev pub month_past : ℕ → ℕ → ℕ → ℕ
month_past r y m = first_day_value r (julian_month_value y m + month_length (J.leap_at y) m) (gregorian_month y m + month_length (G.leap_at y) m)
