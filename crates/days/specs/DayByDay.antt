-- The calendars, day by day. This file is what a reader has to believe: everything proved about dates is said in its words.
-- A day is a whole number, unbounded. Years are astronomical: the year before year 1 is year 0.
use Rattle.std.specs.Prelude.{◌≡◌, Bool, not, cond, ◌&&◌, List, [], ◌∷◌, ◌⊎◌, ℕ, zero, suc, ◌-◌, ◌<◌, ◌≤◌, ◌%◌, ltb, eqb, ℤ, pos, negsuc, nat_abs, ◌+ℤ◌, ◌-ℤ◌, ◌*ℤ◌, get_or, ◌<ℤ◌, ◌≤ℤ◌}
use Rattle.std.proofs.Math.IntN.{suc_ℤ, pred_ℤ}
use Rattle.std.specs.Int.Signed.{lt_z}
use Rattle.std.specs.Int.{w32}
use Rattle.std.proofs.Common.{SFits}

-- ---- Labels

-- a label: a year, a month from 1, a day of the month from 1
pub record Label : Type 0 where
  pub year : ℤ
  pub month : ℕ
  pub day : ℕ

abbrev pub label : ℤ → ℕ → ℕ → Label
label y m d = record { year = y; month = m; day = d }

-- l is earlier than m: by the year; in one year by the month; in one month by the day
infix 40 ◌≺◌
pub data ◌≺◌ (l m : Label) : Type 0 where
  by_year : l.year <ℤ m.year → l ≺ m
  by_month : l.year ≡ m.year → l.month < m.month → l ≺ m
  by_day : l.year ≡ m.year → l.month ≡ m.month → l.day < m.day → l ≺ m

-- ---- Month lengths and leap years

-- the lengths of the months in a year that is leap, or not
abbrev pub month_lengths : Bool → List ℕ
month_lengths leap = 31 ∷ cond leap 29 28 ∷ 31 ∷ 30 ∷ 31 ∷ 30 ∷ 31 ∷ 31 ∷ 30 ∷ 31 ∷ 30 ∷ 31 ∷ []

-- the length of month m; months are counted from 1, and what is no month has no day
unfoldable pub month_length : Bool → ℕ → ℕ
month_length leap m = get_or (0 ∷ month_lengths leap) m 0

-- a month is 1 to 12
abbrev pub Month : ℕ → Type 0
Month m = (1 ≤ m) × (m ≤ 12)

-- d divides z
abbrev pub divides : ℕ → ℤ → Bool
divides d z = eqb (nat_abs z % d) 0

-- a leap rule: which years are leap
abbrev pub LeapRule : Type 0
LeapRule = ℤ → Bool

-- Julian: a year is leap when 4 divides it
unfoldable pub julian_leap : LeapRule
julian_leap y = divides 4 y

-- Gregorian: a year is leap when 4 divides it, unless 100 does and 400 doesn't
unfoldable pub gregorian_leap : LeapRule
gregorian_leap y = divides 4 y && not (divides 100 y && not (divides 400 y))

-- ---- From one day to the next

-- the next label: the next day of the month; past the month's end the first of the next month; past December the next year
unfoldable pub next_label : LeapRule → Label → Label
next_label leap l =
    cond (ltb l.day (month_length (leap l.year) l.month))
    (label l.year l.month (suc l.day))
    (cond (ltb l.month 12) (label l.year (suc l.month) 1) (label (suc_ℤ l.year) 1 1))

-- the label before: the day before in the month; before the first the last of the month before; before January the year before
unfoldable pub prev_label : LeapRule → Label → Label
prev_label leap l =
    cond (ltb 1 l.day)
    (label l.year l.month (l.day - 1))
    (cond (ltb 1 l.month)
    (label l.year (l.month - 1) (month_length (leap l.year) (l.month - 1)))
    (label (pred_ℤ l.year) 12 31))

-- what stands n single steps from a: forward by `next`, backward by `prev`
unfoldable pub stepping : {A : Type 0} → (A → A) → (A → A) → A → ℤ → A
stepping next prev a (pos zero) = a
stepping next prev a (pos (suc n)) = next (stepping next prev a (pos n))
stepping next prev a (negsuc zero) = prev a
stepping next prev a (negsuc (suc n)) = prev (stepping next prev a (negsuc n))

-- a reckoning: a leap rule, and one day whose label is known
pub record Reckoning : Type 0 where
  pub leap : LeapRule
  pub anchor : ℤ
  pub anchor_label : Label

-- the label of every day, from the known one by single steps in both directions
unfoldable pub label_of : Reckoning → ℤ → Label
label_of c n = stepping (next_label c.leap) (prev_label c.leap) c.anchor_label (n -ℤ c.anchor)

-- Julian: day 0 is -4712-01-01
unfoldable pub julian : Reckoning
julian = record { leap = julian_leap; anchor = pos 0; anchor_label = label (negsuc 4711) 1 1 }

-- Gregorian: day 2299161 is 1582-10-15
unfoldable pub gregorian : Reckoning
gregorian = record { leap = gregorian_leap; anchor = pos 2_299_161; anchor_label = label (pos 1582) 10 15 }

-- ---- Timelines

-- below day d the one, from day d on the other
unfoldable pub splice : {A : Type 0} → ℤ → (ℤ → A) → (ℤ → A) → ℤ → A
splice d f g n = cond (lt_z n d) (f n) (g n)

-- what counts as the label of a day: its Julian or its Gregorian label, moved by a number of days, or 30 February of a year
pub data Counts : Type 0 where
  JulianBy : ℤ → Counts
  GregorianBy : ℤ → Counts
  Thirtieth : ℤ → Counts

-- labels moved by k days: day n has the label of day n + k
abbrev pub moved : ℤ → (ℤ → Label) → ℤ → Label
moved (pos zero) f n = f n
moved (pos (suc k)) f n = f (n +ℤ pos (suc k))
moved (negsuc k) f n = f (n +ℤ negsuc k)

abbrev pub counted : Counts → ℤ → Label
counted (JulianBy k) n = moved k (label_of julian) n
counted (GregorianBy k) n = moved k (label_of gregorian) n
counted (Thirtieth y) n = label y 2 30

-- the kind of a label
pub data Style : Type 0 where
  JulianStyle : Style
  GregorianStyle : Style
  SwedishStyle : Style

-- an era: its style, and what counts in it
pub record Era : Type 0 where
  pub style : Style
  pub counts : Counts

abbrev pub julian_era : Era
julian_era = record { style = JulianStyle; counts = JulianBy (pos 0) }

abbrev pub gregorian_era : Era
gregorian_era = record { style = GregorianStyle; counts = GregorianBy (pos 0) }

-- a switch: from this day on, this era
pub record Switch : Type 0 where
  pub on : ℤ
  pub era : Era

-- a timeline: the era before the first switch, and the switches, the earliest first
pub record Timeline : Type 0 where
  pub before : Era
  pub switches : List Switch

-- the era of each day: the first one below the first switch, and from each switch on that of the switch
abbrev pub era_from : Era → List Switch → ℤ → Era
era_from e [] = λ _. e
era_from e (s ∷ l) = splice s.on (λ _. e) (era_from s.era l)

abbrev pub era : Timeline → ℤ → Era
era t = era_from t.before t.switches

-- the label of each day, and the kind of label that it is
abbrev pub labels_in : Timeline → ℤ → Label
labels_in t n = counted (era t n).counts n

abbrev pub style_in : Timeline → ℤ → Style
style_in t n = (era t n).style

-- ---- The calendars

pub data Calendar : Type 0 where
  Julian : Calendar
  Gregorian : Calendar
  Reforming : ℤ → Calendar
  Swedish : Calendar

-- reforming at r, days below r have their Julian label, days from r on their Gregorian one (shown in `AcceptedCalendars`: `reforming_labels`).
-- Sweden: after 28 February 1700 came 1 March, one day ahead of the Julian count; 1712 had a 30 February, and 1 March 1712 was Julian again;
-- 17 February 1753 was followed by 1 March, Gregorian (shown in `KnownDays`: `swedish_days`)
abbrev pub timeline : Calendar → Timeline
timeline Julian = record { before = julian_era; switches = [] }
timeline Gregorian = record { before = gregorian_era; switches = [] }
timeline (Reforming r) = record { before = julian_era; switches = record { on = r; era = gregorian_era } ∷ [] }
timeline Swedish = record {
  before = julian_era;
  switches =
      record { on = pos 2_342_042; era = record { style = SwedishStyle; counts = JulianBy (pos 1) } }
      ∷ record { on = pos 2_346_425; era = record { style = SwedishStyle; counts = Thirtieth (pos 1712) } }
      ∷ record { on = pos 2_346_426; era = julian_era }
      ∷ record { on = pos 2_361_390; era = gregorian_era }
      ∷ [];
}

abbrev pub labels : Calendar → ℤ → Label
labels c = labels_in (timeline c)

abbrev pub style : Calendar → ℤ → Style
style c = style_in (timeline c)

-- ---- What is asked of any labelling of the days

-- a later day has a later label
abbrev pub Rises : (ℤ → Label) → Type 0
Rises f = (a b : ℤ) → a <ℤ b → f a ≺ f b

-- some day bears the label l
abbrev pub Borne : (ℤ → Label) → Label → Type 0
Borne f l = (n : ℤ) × (f n ≡ l)

-- the label is of the year y; of the month m of the year y
abbrev pub OfYear : ℤ → Label → Type 0
OfYear y l = l.year ≡ y

abbrev pub OfMonth : ℤ → ℕ → Label → Type 0
OfMonth y m l = (l.year ≡ y) × (l.month ≡ m)

-- n is the k-th day with P, counted up to n: P holds of the k days n, n - 1, .. and of no day before them, however far back
pub record Place (P : ℤ → Type 0) (n : ℤ) (k : ℕ) : Type 0 where
  pub counted : (j : ℕ) → j < k → P (n -ℤ pos j)
  pub none_before : (d : ℤ) → d ≤ℤ (n -ℤ pos k) → P d → ⊥

-- the ordinal of a day: its place, from 1, among all days with the same year
abbrev pub Ordinal : (ℤ → Label) → ℤ → ℕ → Type 0
Ordinal f n k = Place (λ d. OfYear (f n).year (f d)) n k

-- the day ordinal: the same for year and month
abbrev pub DayOrdinal : (ℤ → Label) → ℤ → ℕ → Type 0
DayOrdinal f n k = Place (λ d. OfMonth (f n).year (f n).month (f d)) n k

-- P holds of k days in all: of the k days up to some day, and of no other, before or after. Of 0 days: of none
pub record Days (P : ℤ → Type 0) (k : ℕ) : Type 0 where
  pub last : ℤ
  pub place : Place P last k
  pub none_after : (d : ℤ) → last <ℤ d → P d → ⊥

-- the length of a year, and the number of days of a month
abbrev pub YearLength : (ℤ → Label) → ℤ → ℕ → Type 0
YearLength f y k = Days (λ d. OfYear y (f d)) k

abbrev pub MonthLength : (ℤ → Label) → ℤ → ℕ → ℕ → Type 0
MonthLength f y m k = Days (λ d. OfMonth y m (f d)) k

-- ---- Weekdays

-- weekdays run from 1, Monday, to 7; day 0 is a Monday
unfoldable pub next_weekday : ℕ → ℕ
next_weekday w = cond (ltb w 7) (suc w) 1

unfoldable pub prev_weekday : ℕ → ℕ
prev_weekday w = cond (ltb 1 w) (w - 1) 7

unfoldable pub weekday : ℤ → ℕ
weekday = stepping next_weekday prev_weekday 1

-- ---- 32-bit days and reformations

-- a number of 32 bits: -2147483648 to 2147483647
abbrev pub Is32Bit : ℤ → Type 0
Is32Bit = SFits w32

-- the Julian day number of the Gregorian label of day r is a 32-bit number
pub record JulianDayFits (r : ℤ) : Type 0 where
  pub julian_day : ℤ
  pub julian_is : label_of julian julian_day ≡ label_of gregorian r
  pub julian_fits : Is32Bit julian_day

-- r is accepted exactly when r - 1 is a 32-bit number, the first Gregorian label is later than the Julian label of the same day r,
-- and the Julian day number of that first label is a 32-bit number
pub record AcceptedReformation (r : ℤ) : Type 0 where
  pub day_before : Is32Bit (r -ℤ pos 1)
  pub later : label_of julian r ≺ label_of gregorian r
  pub julian_day_fits : JulianDayFits r

-- the accepted calendars
pub data Accepted : Calendar → Type 0 where
  julian_accepted : Accepted Julian
  gregorian_accepted : Accepted Gregorian
  reforming_accepted : {r : ℤ} → AcceptedReformation r → Accepted (Reforming r)
  swedish_accepted : Accepted Swedish

-- ---- Skipped dates and missing ones

-- d is the day of one of the switches
pub data SwitchDay : List Switch → ℤ → Type 0 where
  this : {s : Switch} {l : List Switch} → SwitchDay (s ∷ l) s.on
  later : {s : Switch} {l : List Switch} {d : ℤ} → SwitchDay l d → SwitchDay (s ∷ l) d

-- which labels count as skipped where they fall into a gap: those that are valid in the Julian or the Gregorian calendar
abbrev pub Skippable : Label → Type 0
Skippable l = Borne (label_of julian) l ⊎ Borne (label_of gregorian) l

-- a label is skipped: it lies strictly between the last label before a switch and the first one after it, and is valid in the Julian or the
-- Gregorian calendar
pub record SkippedIn (t : Timeline) (l : Label) : Type 0 where
  pub switch : ℤ
  pub switches : SwitchDay t.switches switch
  pub past_last : labels_in t (switch -ℤ pos 1) ≺ l
  pub before_first : l ≺ labels_in t switch
  pub skippable : Skippable l

abbrev pub Skipped : Calendar → Label → Type 0
Skipped c = SkippedIn (timeline c)

-- a label is missing: no day bears it, and it is not skipped
abbrev pub MissingIn : Timeline → Label → Type 0
MissingIn t l = (¬ Borne (labels_in t) l) × (¬ SkippedIn t l)

abbrev pub Missing : Calendar → Label → Type 0
Missing c = MissingIn (timeline c)

-- ---- Timelines that rise

-- the days of the switches rise
abbrev pub After : ℤ → List Switch → Type 0
After d [] = Unit {0}
After d (s ∷ l) = (d <ℤ s.on) × After s.on l

abbrev pub InOrder : List Switch → Type 0
InOrder [] = Unit {0}
InOrder (s ∷ l) = After s.on l

pub record Rising (t : Timeline) : Type 0 where
  -- the days of the switches rise
  pub in_order : InOrder t.switches
  -- a 30 February lasts one day, the next switch coming on the day after
  pub one_day : (n y : ℤ) → (era t n).counts ≡ Thirtieth y → SwitchDay t.switches (suc_ℤ n)
  -- the first label of each switch is later than the label of the day before it
  pub first_later : (d : ℤ) → SwitchDay t.switches d → labels_in t (d -ℤ pos 1) ≺ labels_in t d
  -- the year of every 32-bit day is a 32-bit number
  pub year_fits : (n : ℤ) → Is32Bit n → Is32Bit (labels_in t n).year

-- ---- Unix time

-- t seconds give day n and s seconds into it: n is floor(t / 86400) + 2440588, and s the rest
pub record UnixTime (t n : ℤ) (s : ℕ) : Type 0 where
  pub rest : s < 86_400
  pub adds : (n -ℤ pos 2_440_588) *ℤ pos 86_400 +ℤ pos s ≡ t
