-- What is promised of the Swedish calendar, with days and years that are biased as naturals.
-- Assumes nothing.
use Rattle.std.specs.Prelude.{◌≡◌, ℕ, ◌+◌, pos, Result, Ok, Err}
use Rattle.refusals.specs.Promise.{refusal}
use Rattle.days.specs.DayByDay.{Label, label, Month, Swedish, labels, OfYear, Ordinal, Skipped, Missing}
use Rattle.days.specs.BiasedDays.{day_bias, day, year}
use Rattle.days.specs.RisingSpans.{Stretch}
use Rattle.days.specs.SwedishMonths.{SwedishMonth}
use Rattle.inner.specs.Natural.{biased_year_value}
use Rattle.inner.specs.Spots.{spot}
use Rattle.inner.specs.declared.Spot.{Spot}
use Rattle.refusals.specs.declared.Refusal.{Refusal}
use Rattle.switches.specs.declared.MonthSpan.{MonthSpan}

-- the days of the month m of the biased year y are those from a on and before b
pub record MonthIs (y m a b : ℕ) : Type 0 where
  pub days : ℕ
  pub is_month : SwedishMonth y m a days
  pub past_is : b ≡ a + days

-- it as a month of one run, which no switch is in, or 3 where there is no such month
pub data SpansMonth (y m : ℕ) : Result MonthSpan Refusal → Type 0 where
  spans_month : {a b : ℕ} → Month m → MonthIs y m a b → SpansMonth y m (Ok (record { switch = b; first = a; past = b; gregorian = a }))
  no_month : ¬ Month m → SpansMonth y m (Err (refusal 3 0 (pos m)))

-- the days of a biased year are those from a on and before b
abbrev pub YearSpan : ℕ → ℕ → ℕ → Type 0
YearSpan y a b = Stretch (labels Swedish) (OfYear (year y)) day_bias a b

-- a label of a raised year
abbrev pub label_at : ℕ → ℕ → ℕ → Label
label_at y m d = label (year (biased_year_value y)) m d

-- the day of a label; 5 where it is skipped, and 4 where it is missing
pub data Finds (y m d : ℕ) : Result Spot Refusal → Type 0 where
  finds : {k o : ℕ} → labels Swedish (day k) ≡ label_at y m d → Ordinal (labels Swedish) (day k) o → Finds y m d (Ok (spot k y o m d))
  finds_skipped : Skipped Swedish (label_at y m d) → Finds y m d (Err (refusal 5 0 (pos d)))
  finds_missing : Missing Swedish (label_at y m d) → Finds y m d (Err (refusal 4 0 (pos d)))

-- the spot of day k: its label, and its ordinal
pub record SpotOn (k : ℕ) (s : Spot) : Type 0 where
  pub biased_is : s.biased ≡ k
  pub label_is : labels Swedish (day k) ≡ label_at s.year s.month s.day
  pub ordinal_is : Ordinal (labels Swedish) (day k) s.ordinal
