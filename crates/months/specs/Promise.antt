-- What the calls promise: the rows of the table of refusals that each can meet, in the table's order, and then its answer. Years and months
-- are those of the unbounded calendar; only a record asks for a day of 32 bits.
use Rattle.std.specs.Prelude.{◌≡◌, true, false, ◌⊎◌, ℕ, ◌<◌, ℤ, pos, ◌≤ℤ◌, Result, Ok, Err, Bool}
use Rattle.days.specs.DayByDay.{Label, label, Borne, OfMonth, Place, DayOrdinal, YearLength, MonthLength, Month}
use Rattle.calendar.specs.declared.Calendar.{Calendar}
use Rattle.refusals.specs.declared.Refusal.{Refusal}
use Rattle.calendar.specs.Calendars.{labels, Accepted}
use Rattle.calendar.specs.Rows.{Unless, If}
use Rattle.calendar.specs.Promise.{refusal, made_up, refused, Given, OfALabel}
use Rattle.calendar.specs.declared.Date.{Date}

abbrev pub refused_number : ℕ → ℕ → Result ℕ Refusal
refused_number n v = Err (refusal n (pos v))

-- the answer is a number with P
pub data Number (P : ℕ → Type 0) : Result ℕ Refusal → Type 0 where
  number : {k : ℕ} → P k → Number P (Ok k)

-- a question of a month: 16, 3, and then the rows below
abbrev pub OfAMonth : {A : Type 0} → Calendar → ℕ → (Result A Refusal → Type 0) → Result A Refusal → Type 0
OfAMonth c m Below = Unless (Accepted c) (Err made_up) (Unless (Month m) (Err (refusal 3 (pos m))) Below)

-- ---- Lengths

-- year_length: 16, or the number of days of the year
abbrev pub YearLengthOf : Calendar → ℤ → Result ℕ Refusal → Type 0
YearLengthOf c y = Unless (Accepted c) (Err made_up) (Number (YearLength (labels c) y))

-- len: 16, 3, or the number of days of the month
abbrev pub Len : Calendar → ℤ → ℕ → Result ℕ Refusal → Type 0
Len c y m = OfAMonth c m (Number (MonthLength (labels c) y m))

-- ---- The first and the last day

-- no day is of the month
abbrev pub NoDay : (ℤ → Label) → ℤ → ℕ → Type 0
NoDay f y m = (n : ℤ) → ¬ OfMonth y m (f n)

-- the first day of the month has the day of the month d; d is 0 where no day is of the month
pub data FirstDay (f : ℤ → Label) (y : ℤ) (m : ℕ) : ℕ → Type 0 where
  first : {n : ℤ} {d : ℕ} → f n ≡ label y m d → ((k : ℤ) → OfMonth y m (f k) → n ≤ℤ k) → FirstDay f y m d
  no_first : NoDay f y m → FirstDay f y m 0

-- and the last
pub data LastDay (f : ℤ → Label) (y : ℤ) (m : ℕ) : ℕ → Type 0 where
  last : {n : ℤ} {d : ℕ} → f n ≡ label y m d → ((k : ℤ) → OfMonth y m (f k) → k ≤ℤ n) → LastDay f y m d
  no_last : NoDay f y m → LastDay f y m 0

-- first_day, last_day: 16, 3, or the day of the month
abbrev pub FirstDayOf : Calendar → ℤ → ℕ → Result ℕ Refusal → Type 0
FirstDayOf c y m = OfAMonth c m (Number (FirstDay (labels c) y m))

abbrev pub LastDayOf : Calendar → ℤ → ℕ → Result ℕ Refusal → Type 0
LastDayOf c y m = OfAMonth c m (Number (LastDay (labels c) y m))

-- ---- A day of the month

-- whether some day bears the label
pub data Bears (f : ℤ → Label) (l : Label) : Result Bool Refusal → Type 0 where
  borne : Borne f l → Bears f l (Ok true)
  not_borne : ¬ Borne f l → Bears f l (Ok false)

-- contains: 16, 3, or the answer
abbrev pub Contains : Calendar → ℤ → ℕ → ℕ → Result Bool Refusal → Type 0
Contains c y m d = OfAMonth c m (Bears (labels c) (label y m d))

-- the day that bears the label has the place k among the days of its month
abbrev pub PlaceOf : (ℤ → Label) → Label → ℕ → Type 0
PlaceOf f l k = (n : ℤ) × (f n ≡ l) × DayOrdinal f n k

-- day_ordinal: 16, 3, 4, 5, or the place
abbrev pub DayOrdinalOf : Calendar → ℤ → ℕ → ℕ → Result ℕ Refusal → Type 0
DayOrdinalOf c y m d = OfAMonth c m (OfALabel c y m d Err (Number (PlaceOf (labels c) (label y m d))))

-- ---- The k-th day of a month

-- the position is 0 or above the month's number of days
abbrev pub OffMonth : Calendar → ℤ → ℕ → ℕ → Type 0
OffMonth c y m k = (t : ℕ) × MonthLength (labels c) y m t × ((k ≡ 0) ⊎ (t < k))

-- n is the k-th day of the month
pub record IsNth (f : ℤ → Label) (y : ℤ) (m k : ℕ) (n : ℤ) : Type 0 where
  pub of_month : OfMonth y m (f n)
  pub place : Place (λ d. OfMonth y m (f d)) n k

-- its day of the month
abbrev pub NthLabel : (ℤ → Label) → ℤ → ℕ → ℕ → ℕ → Type 0
NthLabel f y m k d = (n : ℤ) × IsNth f y m k n × (f n ≡ label y m d)

-- nth_day: 16, 3, 21, or the day of the month
abbrev pub NthDay : Calendar → ℤ → ℕ → ℕ → Result ℕ Refusal → Type 0
NthDay c y m k = OfAMonth c m (If (OffMonth c y m k) (refused_number 21 k) (Number (NthLabel (labels c) y m k)))

-- its record
pub data NthRecord (c : Calendar) (y : ℤ) (m k : ℕ) : Result Date Refusal → Type 0 where
  nth_record : {n : ℤ} → IsNth (labels c) y m k n → {a : Result Date Refusal} → Given c y n a → NthRecord c y m k a

-- nth_date: 16, 3, 21, 7, or the record
abbrev pub NthDate : Calendar → ℤ → ℕ → ℕ → Result Date Refusal → Type 0
NthDate c y m k = OfAMonth c m (If (OffMonth c y m k) (refused 21 (pos k)) (NthRecord c y m k))
