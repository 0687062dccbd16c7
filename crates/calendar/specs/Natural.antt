-- What the private functions say, of days and years that are biased as naturals.
use Rattle.std.specs.Prelude.{◌≡◌, Bool, cond, ◌⊎◌, ℤ, pos, ℕ, zero, suc, ◌+◌, ◌-◌, ◌*◌, ◌<◌, ◌≤◌, ltb, eqb, Result, Ok, Err, Option, Some, None}
use Rattle.days.specs.BiasedDays.{day, year}
use Rattle.days.specs.ClosedJulian as J
use Rattle.days.specs.ClosedGregorian as G
use Rattle.days.specs.ClosedNumbers.{There, days_before_value, ThereIn}
use Rattle.days.specs.ClosedStarts as Starts
use Rattle.days.specs.ClosedRuns.{Runs, top, ComesBefore, year_first, month_first_value}
use Rattle.inner.specs.Natural.{biased_year_value}
use Rattle.monthdays.specs.Promise.{MonthDayAt}
use Rattle.fields.specs.declared.Fields.{Fields}
use Rattle.calendar.specs.declared.Calendar.{Calendar}
use Rattle.calendar.specs.declared.Style.{Style}
use Rattle.calendar.specs.declared.Style.TheVariants as Style'
use Rattle.calendar.specs.declared.Date.{Date}
use Rattle.calendar.specs.declared.record.DayInYear.{DayInYear}
use Rattle.inner.specs.declared.Spot.{Spot}
use Rattle.inner.specs.Spots.{At, spot}
use Rattle.calendar.specs.Calendars.{definition_of, Accepted}
use Rattle.calendar.specs.Rows.{Unless}
use Rattle.switches.specs.Promise.{NoneBelow, NotOver, Finds}
use Rattle.calendar.specs.Promise.{refusal, made_up, ReformRecord}
use Rattle.refusals.specs.declared.Refusal.{Refusal}

-- the calendar is Julian below the biased day r and Gregorian from it on; or it is made up
pub data SwitchIs (c : Calendar) : Result ℕ Refusal → Type 0 where
  switches_at : {r : ℕ} → Runs (definition_of c) r → SwitchIs c (Ok r)
  no_calendar : ¬ Accepted c → SwitchIs c (Err made_up)

-- some calendar switches on the biased day r
abbrev pub SomeSwitch : ℕ → Type 0
SomeSwitch r = (c : Calendar) × Runs (definition_of c) r

-- day k is the day d of the month m of the year y, and the o-th of that year, in the reckoning that labels it
pub data LabelledAt (r k y m d o : ℕ) : Type 0 where
  old : k < r → At J.leap_at J.start k y m d o → LabelledAt r k y m d o
  new : r ≤ k → At G.leap_at G.start k y m d o → LabelledAt r k y m d o

abbrev pub OnSpot : ℕ → Spot → Type 0
OnSpot r s = LabelledAt r s.biased (biased_year_value s.year) s.month s.day s.ordinal

-- the record of a spot whose places are those of its own reckoning
abbrev pub plain_record_value : Calendar → Style → Spot → ℤ → Date
plain_record_value c v s n = record { calendar = c; year = year (biased_year_value s.year); ordinal = s.ordinal; month = s.month; day = s.day; day_ordinal = s.day; jdn = n; style = v }

-- the places of a spot are those of its own reckoning: it is before the switch, or its year begins from the switch on
abbrev pub Plain : ℕ → Spot → Type 0
Plain r s = r ≤ s.biased → r + s.ordinal ≤ s.biased + 1

-- a spot is of this day, year and ordinal, with the month and the day that the ordinal has
pub record SpotAt (k y o : ℕ) (leap : Bool) (s : Spot) : Type 0 where
  pub is : s ≡ spot k y o s.month s.day
  pub month_day : MonthDayAt leap o s.month s.day

-- ---- Where a day stands

-- the style of the biased day k
abbrev pub style_at_value : ℕ → ℕ → Style
style_at_value r k = cond (ltb k r) Style'.Julian Style'.Gregorian

-- a day of the raised year y: its label, its places in its year and its month, and its style
pub record IsPlace (r y : ℕ) (p : DayInYear) : Type 0 where
  pub biased : ℕ
  pub own : ℕ
  pub past_is : p.past ≡ biased + 1
  pub labelled : LabelledAt r biased (biased_year_value y) p.month p.day own
  pub ordinal_is : biased + 1 - year_first r (biased_year_value y) ≡ p.ordinal
  pub day_ordinal_is : biased + 1 - month_first_value r (biased_year_value y) p.month ≡ p.day_ordinal
  pub style_is : p.style ≡ style_at_value r biased

-- that of a spot whose places are those of its own reckoning
abbrev pub plain_place_value : Style → Spot → DayInYear
plain_place_value v s = record { past = s.biased + 1; ordinal = s.ordinal; month = s.month; day = s.day; day_ordinal = s.day; style = v }

-- its record
abbrev pub record_at : Calendar → ℤ → DayInYear → Date
record_at c z p = record { calendar = c; year = z; ordinal = p.ordinal; month = p.month; day = p.day; day_ordinal = p.day_ordinal; jdn = day (p.past - 1); style = p.style }

-- ---- From a label

-- its day in a year that starts on a biased day, and is leap or not
pub data ReadsLabel (leap : Bool) (start y m d : ℕ) : Option Spot → Type 0 where
  reads_at : {o : ℕ} → ThereIn leap m d → days_before_value leap m + d ≡ o → ReadsLabel leap start y m d (Some (spot (start + o - 1) y o m d))
  reads_none : ¬ ThereIn leap m d → ReadsLabel leap start y m d None

abbrev pub LabelAt : ℕ → ℕ → ℕ → ℕ → DayInYear → Type 0
LabelAt r y m d p = IsPlace r y p × (p.month ≡ m) × (p.day ≡ d)

abbrev pub PlacesLabel : ℕ → ℕ → ℕ → ℕ → Result DayInYear Refusal → Type 0
PlacesLabel r y m d (Ok p) = LabelAt r y m d p
PlacesLabel r y m d (Err f) = Finds r y m d (Err f)

-- no Julian day before the switch bears it, and its year does not begin from the switch on
abbrev pub LaterLabel : ℕ → ℕ → ℕ → ℕ → Type 0
LaterLabel r y m d = NoneBelow r y m d × (r ≤ J.start (biased_year_value y) → G.start (biased_year_value y) < r)

abbrev pub PlacesEarly : ℕ → ℕ → ℕ → ℕ → Option (Result DayInYear Refusal) → Type 0
PlacesEarly r y m d (Some a) = PlacesLabel r y m d a
PlacesEarly r y m d None = LaterLabel r y m d

-- ---- From a place in a year

-- it is 0, or above the number of the days of the year
abbrev pub OffSpan : ℕ → ℕ → ℕ → Type 0
OffSpan r y o = (o ≡ 0) ⊎ (year_first r (biased_year_value y + 1) - year_first r (biased_year_value y) < o)

pub data PlacesOrdinal (r y o : ℕ) : Result DayInYear Refusal → Type 0 where
  ordinal_at_place : {p : DayInYear} → IsPlace r y p → p.ordinal ≡ o → PlacesOrdinal r y o (Ok p)
  ordinal_off : OffSpan r y o → PlacesOrdinal r y o (Err (refusal 6 (pos o)))

-- the o-th day of the year is a Gregorian day from the switch on
pub record LaterOrdinal (r y o : ℕ) : Type 0 where
  pub some : 1 ≤ o
  pub room : year_first r (biased_year_value y) + o < top
  pub from : r ≤ year_first r (biased_year_value y) + o - 1
  pub spot_is : Starts.InYear G.leap_at G.start (year_first r (biased_year_value y) + o - 1) (biased_year_value y) (year_first r (biased_year_value y) + o - 1 + 1 - G.start (biased_year_value y))

-- ---- From the switch on, in its year: two numbers below 2^32 as one

abbrev pub pair : ℕ → ℕ → ℕ
pair a b = a * 4_294_967_296 + b

-- the places of a label that no Julian day before r bears, in its year and its month; 5 where it is skipped, and 4 where it is nowhere
pub data TurnsLabel (r y m d : ℕ) : ℕ → Type 0 where
  turns_at : {k o i j : ℕ} → r ≤ k → At G.leap_at G.start k (biased_year_value y) m d o → 1 ≤ i → j < 4_294_967_296
      → k + 1 - year_first r (biased_year_value y) ≡ i → k + 1 - month_first_value r (biased_year_value y) m ≡ j → TurnsLabel r y m d (pair i j)
  turns_gap : There J.leap_at (biased_year_value y) m d → ComesBefore r (biased_year_value y) m d → TurnsLabel r y m d 5
  turns_none : ¬ There G.leap_at (biased_year_value y) m d → NotOver r y m d → TurnsLabel r y m d 4

-- the month and the day of a place in the year, and its place in the month
pub data TurnsOrdinal (r y o : ℕ) : ℕ → Type 0 where
  turns_day : {k g m d j : ℕ} → k + 1 ≡ year_first r (biased_year_value y) + o → At G.leap_at G.start k (biased_year_value y) m d g → d < 32 → j < 4_294_967_296
      → k + 1 - month_first_value r (biased_year_value y) m ≡ j → TurnsOrdinal r y o (pair (m * 32 + d) j)

abbrev pub Turns : ℕ → ℕ → ℕ → ℕ → ℕ → Type 0
Turns r y zero o = TurnsOrdinal r y o
Turns r y (suc m) d = TurnsLabel r y (suc m) d

-- ---- Of a calendar and of a date

-- the date so many days before the first Gregorian one
abbrev pub ReformDateOf : Calendar → ℕ → Result (Option Date) Refusal → Type 0
ReformDateOf c b = Unless (Accepted c) (Err made_up) (ReformRecord (pos b) c)

abbrev pub style_number_value : Style → ℕ
style_number_value Style'.Julian = 0
style_number_value Style'.Gregorian = 1
style_number_value Style'.Swedish = 2

-- the fields of a record that its day number and its calendar determine
abbrev pub fields_of : Date → Fields
fields_of d = record { year = d.year; ordinal = d.ordinal; month = d.month; day = d.day; day_ordinal = d.day_ordinal; style = style_number_value d.style }

-- whether a record is of this style
abbrev pub is_of_style : Date → Style → Bool
is_of_style d v = eqb (style_number_value d.style) (style_number_value v)
