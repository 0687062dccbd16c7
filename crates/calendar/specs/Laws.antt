-- From what the private functions say to the promises.
-- Assumes nothing.
use Rattle.std.specs.Prelude.{◌≡◌, refl, Bool, true, false, cond, ℕ, zero, suc, ◌+◌, ◌-◌, ◌*◌, ◌/◌, ◌%◌, ◌<◌, ◌≤◌, ◌^◌, eqb, ℤ, pos, Result, Ok, Err, Some, None}
use Rattle.std.proofs.Common.{sym, ◌∙◌, ap, ap₂, subst, subst₂, inl, inr, ⊎_elim, arith, lt-ltb, le-ltb}
use Rattle.whole.specs.Tests.{lt_or_ge}
use Rattle.whole.specs.Promise.{unbias}
use Rattle.days.specs.DayByDay as D
use Rattle.days.specs.DayByDay.{AcceptedReformation, Label, label, Borne, OfYear, Place, Ordinal, DayOrdinal, Is32Bit, JulianStyle, GregorianStyle, SwedishStyle, style, Month, month_length}
use Rattle.days.proofs.RisingLabels.{nth_within}
use Rattle.days.specs.BiasedDays.{day_bias, day, year, BiasedYear}
use Rattle.days.proofs.ClosedYear.{year_length, year_most}
use Rattle.days.specs.RisingSpans.{Stretch}
use Rattle.days.proofs.ReckoningSteps.{month_most}
use Rattle.days.specs.ClosedStarts.{InYear}
use Rattle.days.proofs.ClosedJulian as J
use Rattle.days.proofs.ClosedGregorian as G
use Rattle.days.proofs.ClosedNumbers.{days_before_value, few_before, ThereIn}
use Rattle.days.specs.ReformationRules.{all_three}
use Rattle.days.proofs.ReformationTable.{accepts_only, fits_biased, there_too}
use Rattle.days.proofs.AcceptedCalendars.{labels_proper, skipped_nowhere}
use Rattle.days.proofs.ClosedRuns.{Runs, reforming_runs, top, first_day_value, first_cases, first_julian, first_reform, year_first, month_first_value, julian_month_value, gregorian_month, year_plain, month_plain, year_stretch, ordinal_at, day_ordinal_at, on_old, on_new, day_before, month_over, in_gap, on_none}
use Rattle.inner.specs.Natural.{biased_day, biased_year_value, Lowers, within, beyond}
use Rattle.monthdays.specs.Promise.{MonthDayAt, OrdinalOf}
use Rattle.inner.specs.Laws.{biased_day_lem, julian_alone, gregorian_alone, spot_of_year}
use Rattle.monthdays.specs.Laws.{month_day_in}
use Rattle.fields.specs.declared.Fields.{Fields}
use Rattle.fields.specs.Promise.{IsSame}
use Rattle.switches.specs.Promise.{Judges, accepts_biased, refuses_with_1, refuses_with_2, YearSpan, Finds, finds_old, finds_new, finds_gap, finds_none, RefusesNonGregorian, taken_away, never_there}
use Rattle.switches.specs.JudgingLaws.{refused_not}
use Rattle.calendar.specs.declared.Calendar.{Calendar}
use Rattle.calendar.specs.declared.Calendar.TheVariants.{Reforming}
use Rattle.calendar.specs.declared.Style.{Style}
use Rattle.calendar.specs.declared.Style.TheVariants as Style'
use Rattle.calendar.specs.declared.Date.{Date}
use Rattle.calendar.specs.declared.record.DayInYear as P
use Rattle.inner.specs.declared.Spot as S
use Rattle.inner.specs.Spots.{At, spot, at_number, at_from, at_few}
use Rattle.switches.specs.Laws.{starts_close, Wholly, wholly_old, wholly_new, wholly_none, wholly_days, ordinal_sum, read_at}
use Rattle.refusals.specs.declared.Refusal.{Refusal}
use Rattle.ways.specs.Promise.{IsNeighbour, there, nowhere}
use Rattle.calendar.specs.Calendars.{definition_of, labels, Accepted, style_of, IsRecord, Genuine, same_style, style_is_value}
use Rattle.calendar.specs.Rows.{refuses, passes, Unless}
use Rattle.switches.specs.declared.reformation.ReformingError.{ReformingError}
use Rattle.switches.specs.Promise.{number_of}
use Rattle.calendar.specs.Promise.{made_up, refusal, refused, refused_reformation_value, Reforms, judged, RecordOf, record_of, Given, on_label, ByOrdinal, OffYear, on_ordinal, AtJdn, AtYmd, AtOrdinal, IsGenuine, TellsDate, Next, ConvertsTo, OfALabel}
use Rattle.calendar.specs.One.{whole, record_one}
use Rattle.calendar.specs.Natural.{SwitchIs, switches_at, no_calendar, SomeSwitch, LabelledAt, old, new, OnSpot, plain_record_value, Plain, SpotAt, IsPlace, plain_place_value, record_at, ReadsLabel, reads_at, reads_none, LabelAt, LaterLabel, PlacesOrdinal, ordinal_at_place, ordinal_off, LaterOrdinal, pair, TurnsLabel, turns_at, turns_gap, turns_none, TurnsOrdinal, turns_day, Turns, style_at_value, style_number_value, fields_of, is_of_style}

-- ---- Where a calendar switches
pub switch_accepted : {r : ℤ} {k : ℕ} → Judges r (Ok k) → SwitchIs (Reforming r) (Ok k)
switch_accepted {k = k} (accepts_biased (all_three a) e) = subst (λ (r : ℤ). SwitchIs (Reforming r) (Ok k)) e (switches_at (reforming_runs k (subst AcceptedReformation (sym e) a)))

pub switch_refused : {r : ℤ} {e : ReformingError} → Judges r (Err e) → SwitchIs (Reforming r) (Err made_up)
switch_refused {r} j = no_calendar not
  where
    not : ¬ Accepted (Reforming r)
    not (D.reforming_accepted a) = refused_not j (all_three a)

-- ---- A day in its reckoning
-- its ordinal, month and day by arithmetic
pub at_spot : {leap_at : ℕ → Bool} {start : ℕ → ℕ} {k y m d o : ℕ} → BiasedYear y → InYear leap_at start k y o → MonthDayAt (leap_at y) o m d → At leap_at start k y m d o
at_spot h p q =
    let (v, f, t) = month_day_in p.from p.to q in
    record { biased = h; there = (v.0, v.1, f, t); ordinal_is = q.day_is; adds = p.adds }

-- ---- The style of a day
pub old_style : {r : ℕ} (k : ℕ) → k < r → Style'.Julian ≡ style_at_value r k
old_style {r} k h = sym (ap (λ (t : Bool). cond t Style'.Julian Style'.Gregorian) (lt-ltb k r h))

pub new_style : {r : ℕ} (k : ℕ) → r ≤ k → Style'.Gregorian ≡ style_at_value r k
new_style {r} k h = sym (ap (λ (t : Bool). cond t Style'.Julian Style'.Gregorian) (le-ltb k r h))

module _ (c : Calendar) {r : ℕ} (runs : Runs (definition_of c) r) {k : ℕ} (room : k < top) where
  pub style_old : k < r → style_of (style (definition_of c) (day k)) ≡ Style'.Julian
  style_old h = ap style_of (runs.below k h room).1

  pub style_new : r ≤ k → style_of (style (definition_of c) (day k)) ≡ Style'.Gregorian
  style_new h = ap style_of (runs.above k h room).1

  pub style_at : style_of (style (definition_of c) (day k)) ≡ style_at_value r k
  style_at = ⊎_elim
      (λ h. style_old h ∙ old_style k h)
      (λ h. style_new h ∙ new_style k h)
      (lt_or_ge k r)

-- ---- A day in its calendar
module _ (c : Calendar) {r : ℕ} (runs : Runs (definition_of c) r) {k y m d o : ℕ} where
  pub labelled_is : LabelledAt r k y m d o → labels c (day k) ≡ label (year y) m d
  labelled_is (old h a) = subst (λ (n : ℕ). labels c (day n) ≡ label (year y) m d) (at_number a) (on_old runs y m d refl a.biased a.there (subst (λ (n : ℕ). n < r) (sym (at_number a)) h))
  labelled_is (new h a) = subst (λ (n : ℕ). labels c (day n) ≡ label (year y) m d) (at_number a) (on_new runs y m d refl a.biased a.there (subst (λ (n : ℕ). r ≤ n) (sym (at_number a)) h))

  pub labelled_biased : LabelledAt r k y m d o → BiasedYear y
  labelled_biased (old h a) = a.biased
  labelled_biased (new h a) = a.biased

  pub labelled_month : LabelledAt r k y m d o → Month m
  labelled_month (old h a) = (a.there.0, a.there.1)
  labelled_month (new h a) = (a.there.0, a.there.1)

  -- its record
  pub record_is : LabelledAt r k y m d o → {n z : ℤ} {i j : ℕ} {v : Style} → day k ≡ n → year y ≡ z → k + 1 - year_first r y ≡ i → k + 1 - month_first_value r y m ≡ j
      → style_of (style (definition_of c) (day k)) ≡ v → IsRecord c n (record { calendar = c; year = z; ordinal = i; month = m; day = d; day_ordinal = j; jdn = n; style = v })
  record_is l {n} e f g h w =
      let v : Month m = labelled_month l in
      record {
        calendar_is = refl;
        label_is = ap (labels c) (sym e) ∙ labelled_is l ∙ ap (λ (z : ℤ). label z m d) f;
        ordinal_is = subst₂ (Ordinal (labels c)) e g (ordinal_at runs k y m d (labelled_biased l) (labelled_is l));
        day_ordinal_is = subst₂ (DayOrdinal (labels c)) e h (day_ordinal_at runs k y m d (labelled_biased l) (labelled_is l) v.0 v.1);
        day_is = refl;
        style_is = sym w ∙ ap (λ (n : ℤ). style_of (style (definition_of c) n)) e;
      }

  -- where the year began in the same reckoning, from the switch on, the places are those of that reckoning
  pub plain_ordinal : LabelledAt r k y m d o → (r ≤ k → r + o ≤ k + 1) → k + 1 - year_first r y ≡ o
  plain_ordinal (old h a) p = ap (λ (n : ℕ). k + 1 - n) (first_julian r (J.start y) (G.start y) (first a.adds (at_from a))) ∙ rest (J.start y) a.adds
    where
      first : {s : ℕ} → s + o ≡ k + 1 → 1 ≤ o → s < r
      first e f = omega arith

      rest : (s : ℕ) → s + o ≡ k + 1 → k + 1 - s ≡ o
      rest s e = omega arith
  plain_ordinal (new h a) p = ap (λ (n : ℕ). k + 1 - n) (year_plain runs y a.biased (first a.adds (p h))) ∙ rest (G.start y) a.adds
    where
      first : {s : ℕ} → s + o ≡ k + 1 → r + o ≤ k + 1 → r ≤ s
      first e f = omega arith

      rest : (s : ℕ) → s + o ≡ k + 1 → k + 1 - s ≡ o
      rest s e = omega arith

  pub plain_day_ordinal : LabelledAt r k y m d o → (r ≤ k → r + o ≤ k + 1) → k + 1 - month_first_value r y m ≡ d
  plain_day_ordinal (old h a) p =
      ap (λ (n : ℕ). k + 1 - n) (first_julian r (julian_month_value y m) (gregorian_month y m) (first (J.start y) (days_before_value (J.leap_at y) m) a.adds a.ordinal_is a.there.2)) ∙ rest (J.start y) (days_before_value (J.leap_at y) m) a.adds a.ordinal_is
    where
      first : (s b : ℕ) → s + o ≡ k + 1 → b + d ≡ o → 1 ≤ d → s + b < r
      first s b e f g = omega arith

      rest : (s b : ℕ) → s + o ≡ k + 1 → b + d ≡ o → k + 1 - (s + b) ≡ d
      rest s b e f = omega arith
  plain_day_ordinal (new h a) p =
      ap (λ (n : ℕ). k + 1 - n) (month_plain runs y a.biased m a.there.0 a.there.1 (first (G.start y) (days_before_value (G.leap_at y) m) a.adds (p h))) ∙ rest (G.start y) (days_before_value (G.leap_at y) m) a.adds a.ordinal_is
    where
      first : (s b : ℕ) → s + o ≡ k + 1 → r + o ≤ k + 1 → r ≤ s + b
      first s b e f = omega arith

      rest : (s b : ℕ) → s + o ≡ k + 1 → b + d ≡ o → k + 1 - (s + b) ≡ d
      rest s b e f = omega arith

-- what a place in a reformed year asks of the machine
module _ (r j g k d : ℕ) (a : g + d ≡ k + 1) (f : d ≤ 366) (n : g ≤ j + 30_000_366) (h : r ≤ k) where
  pub place_first : first_day_value r j g ≤ k + 1
  place_first = first_cases r j g (λ u e. omega arith) (λ u v e. omega arith) (λ u v e. omega arith)

  pub place_few : k + 1 - first_day_value r j g < 2 ^ 32
  place_few = first_cases r j g (λ u e. omega arith) (λ u v e. omega arith) (λ u v e. omega arith)

module _ {k y m d o : ℕ} (a : At G.leap_at G.start k y m d o) where
  pub year_begins : G.start y ≡ k + 1 - o
  year_begins = rest (G.start y) a.adds
    where
      rest : (s : ℕ) → s + o ≡ k + 1 → s ≡ k + 1 - o
      rest s e = omega arith

  pub month_begins : gregorian_month y m ≡ k + 1 - d
  month_begins = rest (G.start y) (days_before_value (G.leap_at y) m) a.adds a.ordinal_is
    where
      rest : (s b : ℕ) → s + o ≡ k + 1 → b + d ≡ o → s + b ≡ k + 1 - d
      rest s b e f = omega arith

  pub month_adds : gregorian_month y m + d ≡ k + 1
  month_adds = rest (G.start y) (days_before_value (G.leap_at y) m) a.adds a.ordinal_is
    where
      rest : (s b : ℕ) → s + o ≡ k + 1 → b + d ≡ o → s + b + d ≡ k + 1
      rest s b e f = omega arith

  pub day_in_month : d ≤ 366
  day_in_month = omega (arith, at_few a, a.ordinal_is)

  pub year_close : G.start y ≤ J.start y + 30_000_366
  year_close = omega (arith, starts_close y a.biased.to)

  pub month_close : gregorian_month y m ≤ julian_month_value y m + 30_000_366
  month_close = sum (J.start y) (G.start y) (days_before_value (J.leap_at y) m) (days_before_value (G.leap_at y) m) (starts_close y a.biased.to) (few_before (G.leap_at y) m a.there.0 a.there.1)
    where
      sum : (a b d e : ℕ) → b ≤ a + 30_000_000 → e ≤ 366 → b + e ≤ a + d + 30_000_366
      sum a b d e h k = omega arith

-- a Gregorian day is labelled so
pub labelled_new : {r k y m d o : ℕ} → LabelledAt r k y m d o → r ≤ k → At G.leap_at G.start k y m d o
labelled_new {r} {k} (old h a) g = absurd (never h g)
  where
    never : k < r → r ≤ k → ⊥
    never h g = omega arith
labelled_new (new h a) g = a

-- ---- The rows of a label
module _ (c : Calendar) {r : ℕ} (runs : Runs (definition_of c) r) {y m d : ℕ} {z : ℤ} (h : BiasedYear (biased_year_value y)) (e : year (biased_year_value y) ≡ z) where
  pub found_label : {s : S.Spot} → Finds r y m d (Ok s) → labels c (day s.biased) ≡ label z m d
  found_label (finds_old g a) = labelled_is c runs (old g a) ∙ ap (λ (z : ℤ). label z m d) e
  found_label (finds_new g a n) = labelled_is c runs (new g a) ∙ ap (λ (z : ℤ). label z m d) e

  -- 4, 5, and then the rows below, in every call that is asked about a label
  pub label_row : {A : Type 0} (refused : Refusal → A) {Below : A → Type 0} {s : S.Spot} {a : A} → Finds r y m d (Ok s) → Below a → OfALabel c z m d refused Below a
  label_row refused {s = s} f b =
      let l : labels c (day s.biased) ≡ label z m d = found_label f in
      passes (λ n. n.0 (day s.biased, l)) (passes (λ i. skipped_nowhere runs.accepted i (day s.biased, l)) b)

  pub refused_row : {A : Type 0} (refused : Refusal → A) {Below : A → Type 0} {f : Refusal} → Finds r y m d (Err f) → OfALabel c z m d refused Below (refused f)
  refused_row refused (finds_gap t u v) = let s = in_gap runs (biased_year_value y) m d e h t u v in passes (λ n. n.1 s) (refuses s)
  refused_row refused (finds_none n l o) = refuses (on_none runs (biased_year_value y) m d e h n l o)

  pub refused_nowhere : {f : Refusal} → Finds r y m d (Err f) → ¬ Borne (labels c) (label z m d)
  refused_nowhere (finds_gap t u v) = skipped_nowhere runs.accepted (in_gap runs (biased_year_value y) m d e h t u v)
  refused_nowhere (finds_none n l o) = (on_none runs (biased_year_value y) m d e h n l o).0

-- ---- A day that is found, in 32 bits
pub given_biased : (c : Calendar) {k : ℕ} {n z : ℤ} {d : Date} → Lowers k (Some n) → IsRecord c n d → Given c z (day k) (Ok d)
given_biased c (within w) i = passes (fits_biased w) (record_of i)

pub lowered_day : {k : ℕ} {n : ℤ} → Lowers k (Some n) → day k ≡ n
lowered_day (within w) = refl

pub given_far : (c : Calendar) {k : ℕ} {z : ℤ} → Lowers k None → Given c z (day k) (refused 7 z)
given_far c (beyond b) = refuses b

-- a spot that was made of an ordinal is on its day
pub spot_made : {leap_at : ℕ → Bool} {start : ℕ → ℕ} {k y o : ℕ} {b : Bool} {s : S.Spot} → BiasedYear (biased_year_value y) → InYear leap_at start k (biased_year_value y) o → b ≡ leap_at (biased_year_value y) → SpotAt k y o b s
    → At leap_at start k (biased_year_value y) s.month s.day o
spot_made {leap_at} {o = o} {s = s} h p e q = at_spot h p (subst (λ (b : Bool). MonthDayAt b o s.month s.day) e q.month_day)

pub spot_old : {r k y o : ℕ} {b : Bool} {s : S.Spot} → BiasedYear (biased_year_value y) → k < r → InYear J.leap_at J.start k (biased_year_value y) o → b ≡ J.leap_at (biased_year_value y) → SpotAt k y o b s → OnSpot r s
spot_old {r} h g p e q = subst (OnSpot r) (sym q.is) (old g (spot_made h p e q))

pub spot_new : {r k y o : ℕ} {b : Bool} {s : S.Spot} → BiasedYear (biased_year_value y) → r ≤ k → InYear G.leap_at G.start k (biased_year_value y) o → b ≡ G.leap_at (biased_year_value y) → SpotAt k y o b s → OnSpot r s
spot_new {r} h g p e q = subst (OnSpot r) (sym q.is) (new g (spot_made h p e q))

-- ---- What a switch says
pub switch_runs : (c : Calendar) {r : ℕ} → SwitchIs c (Ok r) → Runs (definition_of c) r
switch_runs c (switches_at p) = p

pub switch_made_up : (c : Calendar) {e : Refusal} → SwitchIs c (Err e) → ¬ Accepted c
switch_made_up c (no_calendar n) = n

-- a call that asks for the switch first is refused where there is none
pub no_switch : {A : Type 0} (c : Calendar) {e : Refusal} {P : Result A Refusal → Type 0} → SwitchIs c (Err e) → Unless (Accepted c) (Err made_up) P (Err e)
no_switch c (no_calendar n) = refuses n

-- the first day of a month in the Julian reckoning
pub julian_month_is : {leap : Bool} (y : ℕ) {m o t : ℕ} → leap ≡ J.leap_at y → t ≡ J.start y → OrdinalOf leap m 1 (Some o) → t + o - 1 ≡ julian_month_value y m
julian_month_is {leap} y {m} {o} {t} e f p = sum (days_before_value leap m) (ordinal_sum p).1 ∙ ap₂ ◌+◌ f (ap (λ (b : Bool). days_before_value b m) e)
  where
    sum : (b : ℕ) → b + 1 ≡ o → t + o - 1 ≡ t + b
    sum b q = omega arith

-- ---- Reformations
pub reforms_accepted : {r : ℤ} {k : ℕ} → Judges r (Ok k) → Reforms r (Ok (Reforming r))
reforms_accepted (accepts_biased j e) = judged j

pub reforms_refused : {r : ℤ} {e : ReformingError} → Judges r (Err e) → Reforms r (refused_reformation_value (number_of e) r)
reforms_refused (refuses_with_1 j) = judged j
reforms_refused (refuses_with_2 j) = judged j

-- ---- The record of a spot
pub labelled_room : {r k y m d o : ℕ} → LabelledAt r k y m d o → (k < 2_000_000_000_000) × (1 ≤ o) × (o ≤ 366) × (o ≤ k + 1) × (d ≤ k + 1)
labelled_room {k = k} {y} {d = d} {o} (old h a) =
    let n : o ≤ 366 = at_few a in
    (omega (arith, a.adds, a.biased.to), at_from a, n, omega (arith, a.adds), omega (arith, a.adds, a.ordinal_is))
labelled_room {k = k} {y} {d = d} {o} (new h a) =
    let n : o ≤ 366 = at_few a in
    (room (G.start y) (few y a.biased.to) a.adds, at_from a, n, part (G.start y) a.adds, omega (arith, part (G.start y) a.adds, a.ordinal_is))
  where
    few : (y : ℕ) → y < 4_294_967_648 → G.start y < 1_900_000_000_000
    few y h = sum (365 * y) ((y + 3) / 4) ((y + 399) / 400) ((y + 99) / 100) (omega arith) (omega arith) (omega arith)
      where
        sum : (p q s t : ℕ) → p < 1_700_000_000_000 → q < 2_000_000_000 → s < 2_000_000_000 → p + q + s + 16_106_132 - t < 1_900_000_000_000
        sum p q s t a b c = omega arith

    room : (s : ℕ) → s < 1_900_000_000_000 → s + o ≡ k + 1 → k < 2_000_000_000_000
    room s u e = omega (arith, at_few a)

    part : (s : ℕ) → s + o ≡ k + 1 → o ≤ k + 1
    part s e = omega arith

module _ (c : Calendar) {r : ℕ} (runs : Runs (definition_of c) r) (s : S.Spot) {n : ℤ} (l : OnSpot r s) (e : day s.biased ≡ n) where
  pub spot_room : s.biased < top
  spot_room = omega (arith, labelled_room l)

  pub record_plain : {v : Style} → style_of (style (definition_of c) (day s.biased)) ≡ v → (r ≤ s.biased → r + s.ordinal ≤ s.biased + 1) → IsRecord c n (plain_record_value c v s n)
  record_plain w h = record_is c runs l e refl (plain_ordinal c runs l h) (plain_day_ordinal c runs l h) w

  pub record_reform : {a b : ℕ} {z : ℤ} → r ≤ s.biased → year (biased_year_value s.year) ≡ z → a ≡ first_day_value r (J.start (biased_year_value s.year)) (s.biased + 1 - s.ordinal)
      → b ≡ first_day_value r (julian_month_value (biased_year_value s.year) s.month) (s.biased + 1 - s.day)
      → IsRecord c n (record { calendar = c; year = z; ordinal = s.biased + 1 - a; month = s.month; day = s.day; day_ordinal = s.biased + 1 - b; jdn = n; style = Style'.Gregorian })
  record_reform h f g i =
      let a = labelled_new l h in
      record_is c runs l e f
      (ap (λ (x : ℕ). s.biased + 1 - x) (sym (g ∙ ap (first_day_value r (J.start (biased_year_value s.year))) (sym (year_begins a)))))
      (ap (λ (x : ℕ). s.biased + 1 - x) (sym (i ∙ ap (first_day_value r (julian_month_value (biased_year_value s.year) s.month)) (sym (month_begins a)))))
      (style_new c runs spot_room h)

-- what its places ask of the machine
module _ {r : ℕ} (s : S.Spot) {a : ℕ} (l : OnSpot r s) (h : r ≤ s.biased) where
  pub reform_year_room : a ≡ first_day_value r (J.start (biased_year_value s.year)) (s.biased + 1 - s.ordinal) → (a ≤ s.biased + 1) × (s.biased + 1 - a < 2 ^ 32)
  reform_year_room e =
      let p = labelled_new l h in
      let f = e ∙ ap (first_day_value r (J.start (biased_year_value s.year))) (sym (year_begins p)) in
      rw f (
        place_first r (J.start (biased_year_value s.year)) (G.start (biased_year_value s.year)) s.biased s.ordinal p.adds (at_few p) (year_close p) h,
        place_few r (J.start (biased_year_value s.year)) (G.start (biased_year_value s.year)) s.biased s.ordinal p.adds (at_few p) (year_close p) h,
      )

  pub reform_month_room : a ≡ first_day_value r (julian_month_value (biased_year_value s.year) s.month) (s.biased + 1 - s.day) → (a ≤ s.biased + 1) × (s.biased + 1 - a < 2 ^ 32)
  reform_month_room e =
      let p = labelled_new l h in
      let f = e ∙ ap (first_day_value r (julian_month_value (biased_year_value s.year) s.month)) (sym (month_begins p)) in
      rw f (
        place_first r (julian_month_value (biased_year_value s.year) s.month) (gregorian_month (biased_year_value s.year) s.month) s.biased s.day (month_adds p) (day_in_month p) (month_close p) h,
        place_few r (julian_month_value (biased_year_value s.year) s.month) (gregorian_month (biased_year_value s.year) s.month) s.biased s.day (month_adds p) (day_in_month p) (month_close p) h,
      )

-- ---- A genuine record
pub style_number_one : (a b : Style) → style_number_value a ≡ style_number_value b → a ≡ b
style_number_one Style'.Julian Style'.Julian e = refl
style_number_one Style'.Julian Style'.Gregorian e = absurd (omega arith)
style_number_one Style'.Julian Style'.Swedish e = absurd (omega arith)
style_number_one Style'.Gregorian Style'.Julian e = absurd (omega arith)
style_number_one Style'.Gregorian Style'.Gregorian e = refl
style_number_one Style'.Gregorian Style'.Swedish e = absurd (omega arith)
style_number_one Style'.Swedish Style'.Julian e = absurd (omega arith)
style_number_one Style'.Swedish Style'.Gregorian e = absurd (omega arith)
style_number_one Style'.Swedish Style'.Swedish e = refl

pub genuine_by : {d t : Date} → RecordOf d.calendar d.jdn (Ok t) → Accepted d.calendar → fields_of d ≡ fields_of t → Genuine d
unfolding whole
genuine_by {d} {t} (record_of i) a g = record { accepted = a; is_record = subst (IsRecord d.calendar d.jdn) same i }
  where
    same : t ≡ d
    same =
        let c : t.calendar ≡ d.calendar = i.calendar_is in
        let j : t.jdn ≡ d.jdn = i.day_is in
        let y : d.year ≡ t.year = ap (λ (f : Fields). f.year) g in
        let o : d.ordinal ≡ t.ordinal = ap (λ (f : Fields). f.ordinal) g in
        let m : d.month ≡ t.month = ap (λ (f : Fields). f.month) g in
        let e : d.day ≡ t.day = ap (λ (f : Fields). f.day) g in
        let b : d.day_ordinal ≡ t.day_ordinal = ap (λ (f : Fields). f.day_ordinal) g in
        let v : d.style ≡ t.style = style_number_one d.style t.style (ap (λ (f : Fields). f.style) g) in
        let w : whole t.calendar t.year t.ordinal t.month t.day t.day_ordinal t.jdn t.style ≡ whole d.calendar d.year d.ordinal d.month d.day d.day_ordinal d.jdn d.style = cc in
        w

not_genuine : {d t : Date} → RecordOf d.calendar d.jdn (Ok t) → ¬ (fields_of d ≡ fields_of t) → ¬ Genuine d
not_genuine {d} (record_of i) n g = n (ap fields_of (record_one g.is_record i))

-- what is promised for a day number is promised for the same number written otherwise
pub at_same_jdn : {c : Calendar} {n m : ℤ} {a : Result Date Refusal} → n ≡ m → AtJdn c n a → AtJdn c m a
at_same_jdn {c} {a = a} e p = subst (λ (k : ℤ). AtJdn c k a) e p

-- from the record of its day number in its calendar
pub genuine_compared : (d t : Date) (b : Bool) → AtJdn d.calendar d.jdn (Ok t) → IsSame (fields_of d) (fields_of t) b → IsGenuine d b
genuine_compared d t true (passes a r) s = genuine_by r a s
genuine_compared d t false (passes a r) s = not_genuine r s

pub genuine_refused : {d : Date} {a : Result Date Refusal} {f : Refusal} → a ≡ Err f → AtJdn d.calendar d.jdn a → ¬ Genuine d
genuine_refused e (refuses x) g = x g.accepted
genuine_refused e (passes a (record_of i)) g = let z : ◌≡◌ {A = ℕ} 0 1 = cc in omega arith

-- the record of a day next to it
pub next_row : {d : Date} {n : ℤ} {a : Result Date Refusal} → Genuine d → Is32Bit n → AtJdn d.calendar n a → Next d n a
next_row g f (refuses x) = absurd (x g.accepted)
next_row g f (passes x r) = passes g (passes f r)

pub nowhere_outside : {n : ℤ} → IsNeighbour n None → ¬ Is32Bit n
nowhere_outside (nowhere x) = x

pub day_there : {n k : ℤ} → IsNeighbour n (Some k) → Is32Bit n × (k ≡ n)
day_there (there f) = (f, refl)

pub converts_row : {d : Date} {c : Calendar} {a : Result Date Refusal} → Genuine d → AtJdn c d.jdn a → ConvertsTo d c a
converts_row g (refuses x) = refuses (λ p. x p.1)
converts_row g (passes x r) = passes (g, x) r

-- ---- Styles
same_style_lem : (a b : D.Style) → eqb (style_number_value (style_of b)) (style_number_value (style_of a)) ≡ same_style a b
same_style_lem JulianStyle JulianStyle = refl
same_style_lem JulianStyle GregorianStyle = refl
same_style_lem JulianStyle SwedishStyle = refl
same_style_lem GregorianStyle JulianStyle = refl
same_style_lem GregorianStyle GregorianStyle = refl
same_style_lem GregorianStyle SwedishStyle = refl
same_style_lem SwedishStyle JulianStyle = refl
same_style_lem SwedishStyle GregorianStyle = refl
same_style_lem SwedishStyle SwedishStyle = refl

-- that of a genuine record is that of its day
pub tells_style : (a : D.Style) {d : Date} {b : Result Bool Refusal} → TellsDate d (is_of_style d (style_of a)) b → TellsDate d (style_is_value a d) b
tells_style a (refuses x) = refuses x
tells_style a {d} (passes g e) = passes g (e ∙ ap Ok (ap (λ (v : Style). eqb (style_number_value v) (style_number_value (style_of a))) g.is_record.style_is ∙ same_style_lem a (style (definition_of d.calendar) d.jdn)))

-- ---- The day of the reformation
pub reform_some : {r : ℤ} (x : ℕ) → Accepted (Reforming r) → unbias (2 ^ 31) x ≡ r → 1 ≤ x
reform_some x (D.reforming_accepted a) e = omega (arith, accepts_only (biased_day x) (omega arith) (subst D.AcceptedReformation (sym (biased_day_lem x ∙ e)) a))

-- ---- The rows of a day that is found: by its label, and by its place in its year
module _ {c : Calendar} {n z : ℤ} {a : Result Date Refusal} (acc : Accepted c) (g : Given c z n a) where
  pub label_given : {m d : ℕ} → labels c n ≡ label z m d → AtYmd c z m d a
  label_given {m} {d} e =
      let p = labels_proper (definition_of c) n in
      let here : Borne (labels c) (label z m d) = (n, e) in
      passes acc (passes (subst (λ (l : Label). Month l.month) e (p.0, p.1)) (passes (λ k. k.0 here) (passes (λ s. skipped_nowhere acc s here) (on_label e g))))

  pub ordinal_given : {o : ℕ} → OfYear z (labels c n) → Place (λ d. OfYear z (labels c d)) n o → AtOrdinal c z o a
  ordinal_given {o} u p = passes acc (passes inside (on_ordinal u p g))
    where
      inside : ¬ OffYear c z o
      inside (t, days, off) = let (i, j) = nth_within days u p in ⊎_elim (λ e. low i e) (λ h. high t j h) off
        where
          low : 1 ≤ o → o ≡ 0 → ⊥
          low i e = omega arith

          high : (t : ℕ) → o ≤ t → t < o → ⊥
          high t j h = omega arith

-- ---- Usual dates
-- a spot in a year that is wholly in one reckoning
in_old : {r y k m d o : ℕ} → J.start y + 366 < r → At J.leap_at J.start k y m d o → LabelledAt r k y m d o × (r ≤ k → r + o ≤ k + 1)
in_old {r} {y} {k} {o = o} g a = let h : k < r = below (J.start y) g a.adds in (old h a, λ i. absurd (never i h))
  where
    below : (s : ℕ) → s + 366 < r → s + o ≡ k + 1 → k < r
    below s g e = omega (arith, at_few a)

    never : r ≤ k → k < r → ⊥
    never i h = omega arith

in_new : {r y k m d o : ℕ} → r ≤ G.start y → At G.leap_at G.start k y m d o → LabelledAt r k y m d o × (r ≤ k → r + o ≤ k + 1)
in_new {r} {y} {k} {o = o} g a = (new (from (G.start y) g a.adds) a, λ i. over (G.start y) g a.adds)
  where
    from : (s : ℕ) → r ≤ s → s + o ≡ k + 1 → r ≤ k
    from s g e = omega (arith, at_from a)

    over : (s : ℕ) → r ≤ s → s + o ≡ k + 1 → r + o ≤ k + 1
    over s g e = omega arith

one : (s o : ℕ) → 1 ≤ o → s + o ≡ s + o - 1 + 1
one s o h = omega arith

-- by a month and a day of it, and by an ordinal
module _ (y : ℕ) {r : ℕ} (h : BiasedYear (biased_year_value y)) where
  pub whole_there : {t : ℕ} {b : Bool} {m d o : ℕ} → Wholly r (biased_year_value y) t b → ThereIn b m d → days_before_value b m + d ≡ o → OnSpot r (spot (t + o - 1) y o m d) × Plain r (spot (t + o - 1) y o m d)
  whole_there {m = m} {d} (wholly_old g) v e = in_old g (read_at J.leap_at J.start y m d h refl refl v e)
  whole_there {m = m} {d} (wholly_new f g) v e = in_new g (read_at G.leap_at G.start y m d h refl refl v e)

  pub whole_label : {t : ℕ} {b : Bool} {m d o : ℕ} → Wholly r (biased_year_value y) t b → OrdinalOf b m d (Some o) → OnSpot r (spot (t + o - 1) y o m d) × Plain r (spot (t + o - 1) y o m d)
  whole_label w p = let (v, e) = ordinal_sum p in whole_there w v e

  pub whole_ordinal : {t : ℕ} {b : Bool} {o : ℕ} {s : S.Spot} → Wholly r (biased_year_value y) t b → 1 ≤ o → o ≤ year_length b → SpotAt (t + o - 1) y o b s → OnSpot r s × Plain r s
  whole_ordinal {o = o} (wholly_old g) from to q = subst (λ (s : S.Spot). OnSpot r s × Plain r s) (sym q.is)
      (in_old g (spot_made h (record { from = from; to = to; adds = one (J.start (biased_year_value y)) o from }) refl q))
  whole_ordinal {o = o} (wholly_new f g) from to q = subst (λ (s : S.Spot). OnSpot r s × Plain r s) (sym q.is)
      (in_new g (spot_made h (record { from = from; to = to; adds = one (G.start (biased_year_value y)) o from }) refl q))

-- ---- Two numbers as one
pub month_few : {leap_at : ℕ → Bool} {start : ℕ → ℕ} {k y m d o : ℕ} → At leap_at start k y m d o → d < 32
month_few {leap_at} {y = y} {m} a = omega (arith, a.there.3, month_most (leap_at y) m a.there.0 a.there.1)

pair_first : (i j : ℕ) → j < 4_294_967_296 → pair i j / 4_294_967_296 ≡ i
pair_first i j h = omega arith

pair_second : (i j : ℕ) → j < 4_294_967_296 → pair i j % 4_294_967_296 ≡ j
pair_second i j h = omega arith

month_of : (m d : ℕ) → d < 32 → (m * 32 + d) / 32 ≡ m
month_of m d h = omega arith

day_of : (m d : ℕ) → d < 32 → (m * 32 + d) % 32 ≡ d
day_of m d h = omega arith

-- ---- Where a day stands
module _ (c : Calendar) {r y : ℕ} (runs : Runs (definition_of c) r) {p : P.DayInYear} {z : ℤ} (e : year (biased_year_value y) ≡ z) (s : IsPlace r y p) where
  pub place_some : 1 ≤ p.past
  place_some = omega (arith, s.past_is)

  biased_past : s.biased ≡ p.past - 1
  biased_past = omega (arith, s.past_is)

  pub place_record : IsRecord c (day (p.past - 1)) (record_at c z p)
  place_record = record_is c runs s.labelled (ap day biased_past) e s.ordinal_is s.day_ordinal_is (style_at c runs (omega (arith, labelled_room s.labelled)) ∙ sym s.style_is)

  biased_label : labels c (day s.biased) ≡ label z p.month p.day
  biased_label = labelled_is c runs s.labelled ∙ ap (λ (z : ℤ). label z p.month p.day) e

  place_label : labels c (day (p.past - 1)) ≡ label z p.month p.day
  place_label = ap (λ (k : ℕ). labels c (day k)) (sym biased_past) ∙ biased_label

  pub place_ymd : {m d : ℕ} {a : Result Date Refusal} → p.month ≡ m → p.day ≡ d → Given c z (day (p.past - 1)) a → AtYmd c z m d a
  place_ymd {a = a} f g q = subst₂ (λ (m d : ℕ). AtYmd c z m d a) f g (label_given runs.accepted q place_label)

  pub place_ordinal : {o : ℕ} {a : Result Date Refusal} → p.ordinal ≡ o → Given c z (day (p.past - 1)) a → AtOrdinal c z o a
  place_ordinal {a = a} f g = subst (λ (o : ℕ). AtOrdinal c z o a) f (ordinal_given runs.accepted g (ap (λ (l : Label). l.year) place_label) place)
    where
      there : Place (λ d. OfYear z (labels c d)) (day s.biased) p.ordinal
      there = subst₂ (λ (y : ℤ) (o : ℕ). Place (λ d. OfYear y (labels c d)) (day s.biased) o) (ap (λ (l : Label). l.year) biased_label) s.ordinal_is
          (ordinal_at runs s.biased (biased_year_value y) p.month p.day (labelled_biased c runs s.labelled) (labelled_is c runs s.labelled))

      place : Place (λ d. OfYear z (labels c d)) (day (p.past - 1)) p.ordinal
      place = subst (λ (k : ℕ). Place (λ d. OfYear z (labels c d)) (day k) p.ordinal) biased_past there

pub given_place : (c : Calendar) (p : P.DayInYear) {z n : ℤ} → Lowers (p.past - 1) (Some n) → IsRecord c (day (p.past - 1)) (record_at c z p)
    → Given c z (day (p.past - 1)) (Ok (whole c z p.ordinal p.month p.day p.day_ordinal n p.style))
unfolding whole
given_place c p {z} w i =
    given_biased c w (subst (λ (n : ℤ). IsRecord c n (whole c z p.ordinal p.month p.day p.day_ordinal n p.style)) (lowered_day w) i)

-- a spot whose places are those of its own reckoning
pub plain_stands : {r : ℕ} → SomeSwitch r → (s : S.Spot) → OnSpot r s → Plain r s → {v : Style} → v ≡ style_at_value r s.biased → IsPlace r s.year (plain_place_value v s)
plain_stands (c, runs) s l p e =
    record {
      biased = s.biased;
      own = s.ordinal;
      past_is = refl;
      labelled = l;
      ordinal_is = plain_ordinal c runs l p;
      day_ordinal_is = plain_day_ordinal c runs l p;
      style_is = e;
    }

pub place_room : {r y : ℕ} {p : P.DayInYear} → IsPlace r y p → p.past < top
place_room q = omega (arith, q.past_is, labelled_room q.labelled)

pub plain_room : {r y : ℕ} {v : Style} (s : S.Spot) → IsPlace r y (plain_place_value v s) → s.biased < top
plain_room s q = omega (arith, q.past_is, labelled_room q.labelled)

never_both : {r : ℕ} (k : ℕ) → r ≤ k → k < r → ⊥
never_both k g h = omega arith

-- ---- From a label
begun : {r t : ℕ} (y : ℕ) → t ≡ J.start (biased_year_value y) → t < r → r ≤ J.start (biased_year_value y) → G.start (biased_year_value y) < r
begun {r} y f g i = absurd (never_both (J.start (biased_year_value y)) i (subst (λ (k : ℕ). k < r) f g))

module _ {r m d t : ℕ} {b : Bool} (y : ℕ) (h : BiasedYear (biased_year_value y)) where
  -- a Julian day before the switch, and a day of a year that begins from the switch on
  pub early_old : {s : S.Spot} → SomeSwitch r → b ≡ J.leap_at (biased_year_value y) → t ≡ J.start (biased_year_value y) → ReadsLabel b t y m d (Some s) → s.biased < r → LabelAt r y m d (plain_place_value Style'.Julian s)
  early_old w e f (reads_at {o} v q) g =
      (plain_stands w (spot (t + o - 1) y o m d) (old g (read_at J.leap_at J.start y m d h e f v q)) (λ i. absurd (never_both (t + o - 1) i g)) (old_style (t + o - 1) g), refl, refl)

  pub early_new : {s : S.Spot} → SomeSwitch r → b ≡ G.leap_at (biased_year_value y) → t ≡ G.start (biased_year_value y) → ReadsLabel b t y m d (Some s) → r ≤ t → LabelAt r y m d (plain_place_value Style'.Gregorian s)
  early_new w e f (reads_at {o} v q) g =
      let a = read_at G.leap_at G.start y m d h e f v q in
      let (l, p) = in_new (subst (λ (k : ℕ). r ≤ k) f g) a in
      (plain_stands w (spot (t + o - 1) y o m d) l p (new_style (t + o - 1) (omega (arith, at_from a))), refl, refl)

  -- a label that a year has not which is wholly in one reckoning
  pub old_none : b ≡ J.leap_at (biased_year_value y) → t ≡ J.start (biased_year_value y) → ReadsLabel b t y m d None → t + 366 < r → Finds r y m d (Err (refusal 4 (pos d)))
  old_none e f (reads_none n) g = let (i, j, o) = wholly_none y (wholly_old (subst (λ (k : ℕ). k + 366 < r) f g)) (subst (λ (b : Bool). ¬ ThereIn b m d) e n) in finds_none i j o

  pub new_none : b ≡ G.leap_at (biased_year_value y) → t ≡ G.start (biased_year_value y) → ReadsLabel b t y m d None → {u : ℕ} → u ≡ J.start (biased_year_value y) → r ≤ u → r ≤ t → Finds r y m d (Err (refusal 4 (pos d)))
  new_none e f (reads_none n) k i g =
      let (i, j, o) = wholly_none y (wholly_new (subst (λ (k : ℕ). r ≤ k) k i) (subst (λ (k : ℕ). r ≤ k) f g)) (subst (λ (b : Bool). ¬ ThereIn b m d) e n) in
      finds_none i j o

  -- one that is looked for from the switch on
  pub later_none : b ≡ J.leap_at (biased_year_value y) → t ≡ J.start (biased_year_value y) → t < r → ReadsLabel b t y m d None → LaterLabel r y m d
  later_none e f g (reads_none n) = (λ i. absurd (n (i.0, i.1, i.2, subst (λ (b : Bool). d ≤ month_length b m) (sym e) i.3)), begun y f g)

  pub later_late : {s : S.Spot} → b ≡ J.leap_at (biased_year_value y) → t ≡ J.start (biased_year_value y) → t < r → ReadsLabel b t y m d (Some s) → r ≤ s.biased → LaterLabel r y m d
  later_late e f g (reads_at v q) i = (λ j. subst (λ (n : ℕ). r ≤ n) (sym (at_number (read_at J.leap_at J.start y m d h e f v q))) i, begun y f g)

pub later_new : {r m d t u : ℕ} (y : ℕ) → t ≡ J.start (biased_year_value y) → r ≤ t → u ≡ G.start (biased_year_value y) → u < r → LaterLabel r y m d
later_new {r} {m} {d} y f g e i = (λ j. late (J.start (biased_year_value y)) (days_before_value (J.leap_at (biased_year_value y)) m) (subst (λ (k : ℕ). r ≤ k) f g) j.2, λ j. subst (λ (k : ℕ). k < r) e i)
  where
    late : (s b : ℕ) → r ≤ s → 1 ≤ d → r ≤ s + b + d - 1
    late s b g h = omega arith

-- what is found from the switch on: 4, 5, or the places
module _ {r m d : ℕ} (y : ℕ) (l : LaterLabel r y m d) where
  pub later_refused : {t : ℕ} → TurnsLabel r y m d t → t < 4_294_967_296 → Finds r y m d (Err (refusal t (pos d)))
  later_refused (turns_at {i} {j} g a u v e f) h = absurd (large i j u h)
    where
      large : (i j : ℕ) → 1 ≤ i → pair i j < 4_294_967_296 → ⊥
      large i j u h = omega arith
  later_refused (turns_gap t u) h = finds_gap t (l.0 t) u
  later_refused (turns_none n o) h = finds_none n l.0 o

  pub later_at : {t w : ℕ} → TurnsLabel r y m d t → 4_294_967_296 ≤ t → w ≡ year_first r (biased_year_value y)
      → LabelAt r y m d (record { past = w + t / 4_294_967_296; ordinal = t / 4_294_967_296; month = m; day = d; day_ordinal = t % 4_294_967_296; style = Style'.Gregorian })
  later_at {w = w} (turns_at {k} {o} {i} {j} g a u v e f) h q = (
    record {
      biased = k;
      own = o;
      past_is = ap (λ (n : ℕ). w + n) (pair_first i j v) ∙ sum (year_first r (biased_year_value y)) q e u;
      labelled = new g a;
      ordinal_is = e ∙ sym (pair_first i j v);
      day_ordinal_is = f ∙ sym (pair_second i j v);
      style_is = new_style k g;
    },
    refl,
    refl,
  )
    where
      sum : (x : ℕ) → w ≡ x → k + 1 - x ≡ i → 1 ≤ i → w + i ≡ k + 1
      sum x q e u = omega arith
  later_at (turns_gap t u) h q = absurd (small h)
    where
      small : 4_294_967_296 ≤ 5 → ⊥
      small h = omega arith
  later_at (turns_none n o) h q = absurd (small h)
    where
      small : 4_294_967_296 ≤ 4 → ⊥
      small h = omega arith

  -- the first day of its year
  pub later_first : {t w : ℕ} → t ≡ J.start (biased_year_value y) → (t < r → w ≡ t) × (r ≤ t → w ≡ r) → w ≡ year_first r (biased_year_value y)
  later_first {t} e (f, g) = ⊎_elim
      (λ h. f h ∙ e ∙ sym (first_julian r (J.start (biased_year_value y)) (G.start (biased_year_value y)) (subst (λ (k : ℕ). k < r) e h)))
      (λ h. let i = subst (λ (k : ℕ). r ≤ k) e h in g h ∙ sym (first_reform r (J.start (biased_year_value y)) (G.start (biased_year_value y)) i (l.1 i)))
      (lt_or_ge t r)

-- ---- From a place in a year
module _ {r : ℕ} (y : ℕ) {o : ℕ} (h : BiasedYear (biased_year_value y)) where
  pub off_low : o < 1 → PlacesOrdinal r y o (Err (refusal 6 (pos o)))
  off_low n = ordinal_off (inl (omega arith))

  pub off_whole : {t : ℕ} {b : Bool} → Wholly r (biased_year_value y) t b → year_length b < o → PlacesOrdinal r y o (Err (refusal 6 (pos o)))
  off_whole w n = ordinal_off (inr (subst (λ (k : ℕ). k < o) (sym (wholly_days (biased_year_value y) w)) n))

  pub off_span : {a b : ℕ} → YearSpan r (biased_year_value y) a b → 1 ≤ o → b < a + o → PlacesOrdinal r y o (Err (refusal 6 (pos o)))
  off_span s u n = ordinal_off (inr (omega (arith, s.first_is, s.past_is)))

  -- of a spot that was made of it
  spot_place : {k : ℕ} {b : Bool} {v : Style} (s : S.Spot) → SomeSwitch r → SpotAt k y o b s → OnSpot r s × Plain r s → v ≡ style_at_value r k → IsPlace r y (plain_place_value v s) × (s.ordinal ≡ o)
  spot_place {v = v} s w q (l, p) e = (
    subst (λ (x : ℕ). IsPlace r x (plain_place_value v s)) (ap (λ (s : S.Spot). s.year) q.is) (plain_stands w s l p (e ∙ ap (λ (s : S.Spot). style_at_value r s.biased) (sym q.is))),
    ap (λ (s : S.Spot). s.ordinal) q.is,
  )

  pub whole_place : {t : ℕ} {b : Bool} {u : Style} (s : S.Spot) → SomeSwitch r → Wholly r (biased_year_value y) t b → 1 ≤ o → o ≤ year_length b → SpotAt (t + o - 1) y o b s → u ≡ style_at_value r (t + o - 1)
      → IsPlace r y (plain_place_value u s) × (s.ordinal ≡ o)
  whole_place s w v from to q e = spot_place s w q (whole_ordinal y h v from to q) e

  -- in the year of a switch
  module _ {a b : ℕ} (g : SomeSwitch r) (s : YearSpan r (biased_year_value y) a b) (u : 1 ≤ o) (v : a + o ≤ b) where
    abbrev days_of : Stretch (labels g.0) (OfYear (year (biased_year_value y))) day_bias (year_first r (biased_year_value y)) (year_first r (biased_year_value y + 1))
    days_of = year_stretch g.1 (biased_year_value y) h

    of_year_lem : OfYear (year (biased_year_value y)) (labels g.0 (day (a + o - 1)))
    of_year_lem = days_of.inside (a + o - 1) (omega (arith, s.first_is)) (omega (arith, s.past_is))

    room : a + o - 1 < top
    room = omega (arith, s.past_room)

    pub span_old : {b : Bool} (p : S.Spot) → a + o ≤ r → b ≡ J.leap_at (biased_year_value y) → SpotAt (a + o - 1) y o b p → IsPlace r y (plain_place_value Style'.Julian p) × (p.ordinal ≡ o)
    span_old p n e q = spot_place p g q (spot_old h below spot_is e q, λ i. absurd (never_both (a + o - 1) (subst (λ (p : S.Spot). r ≤ p.biased) q.is i) below)) (old_style (a + o - 1) below)
      where
        below : a + o - 1 < r
        below = omega arith

        own : InYear J.leap_at J.start (a + o - 1) (biased_year_value y) (a + o - 1 + 1 - J.start (biased_year_value y))
        own = spot_of_year julian_alone h (subst (OfYear (year (biased_year_value y))) (g.1.below (a + o - 1) below room).0 of_year_lem)

        begins : a ≡ J.start (biased_year_value y)
        begins = s.first_is ∙ first_julian r (J.start (biased_year_value y)) (G.start (biased_year_value y)) (first (J.start (biased_year_value y)) own.from own.adds)
          where
            first : (x : ℕ) → 1 ≤ a + o - 1 + 1 - x → x + (a + o - 1 + 1 - x) ≡ a + o - 1 + 1 → x < r
            first x i j = omega arith

        spot_is : InYear J.leap_at J.start (a + o - 1) (biased_year_value y) o
        spot_is = subst (InYear J.leap_at J.start (a + o - 1) (biased_year_value y)) (rest (J.start (biased_year_value y)) begins) own
          where
            rest : (x : ℕ) → a ≡ x → a + o - 1 + 1 - x ≡ o
            rest x e = omega arith

    pub span_later : r < a + o → LaterOrdinal r y o
    span_later n = record {
      some = u;
      room = omega (arith, s.first_is, s.past_room);
      from = omega (arith, s.first_is);
      spot_is = subst (λ (x : ℕ). InYear G.leap_at G.start (x + o - 1) (biased_year_value y) (x + o - 1 + 1 - G.start (biased_year_value y))) s.first_is
          (spot_of_year gregorian_alone h (subst (OfYear (year (biased_year_value y))) (g.1.above (a + o - 1) (omega arith) room).0 of_year_lem));
    }

    pub turned_place : {t : ℕ} → r < a + o → TurnsOrdinal r y o t
        → IsPlace r y (record { past = a + o; ordinal = o; month = t / 4_294_967_296 / 32; day = t / 4_294_967_296 % 32; day_ordinal = t % 4_294_967_296; style = Style'.Gregorian })
    turned_place n (turns_day {k} {g = x} {m} {d} {j} e i f w z) = rw (pair_first (m * 32 + d) j w, pair_second (m * 32 + d) j w, month_of m d f, day_of m d f) (record {
      biased = k;
      own = x;
      past_is = ap (λ (n : ℕ). n + o) s.first_is ∙ sym e;
      labelled = new (omega (arith, s.first_is)) i;
      ordinal_is = omega arith;
      day_ordinal_is = z;
      style_is = new_style k (omega (arith, s.first_is));
    })

pub ordinal_placed : {r y o : ℕ} {p : P.DayInYear} → PlacesOrdinal r y o (Ok p) → IsPlace r y p × (p.ordinal ≡ o)
ordinal_placed (ordinal_at_place i e) = (i, e)

pub off_row : (c : Calendar) {r : ℕ} (runs : Runs (definition_of c) r) (y : ℕ) {o : ℕ} {z : ℤ} {f : Refusal} → BiasedYear (biased_year_value y) → year (biased_year_value y) ≡ z → PlacesOrdinal r y o (Err f) → AtOrdinal c z o (Err f)
off_row c {r} runs y {o} h e (ordinal_off n) = passes runs.accepted (subst (λ (z : ℤ). ByOrdinal c z o (refused 6 (pos o))) e
    (refuses (year_first r (biased_year_value y + 1) - year_first r (biased_year_value y), (year_stretch runs (biased_year_value y) h).days, n)))

-- ---- From the switch on, in its year
module _ {r : ℕ} (y : ℕ) {o w g : ℕ} (h : BiasedYear (biased_year_value y)) (l : LaterOrdinal r y o) (e : w ≡ year_first r (biased_year_value y)) (f : g ≡ G.start (biased_year_value y)) where
  later_own : InYear G.leap_at G.start (w + o - 1) (biased_year_value y) (w + o - g)
  later_own = subst₂ (λ (k x : ℕ). InYear G.leap_at G.start k (biased_year_value y) x) (ap (λ (x : ℕ). x + o - 1) (sym e)) (rest (year_first r (biased_year_value y)) (G.start (biased_year_value y)) e f l.some) l.spot_is
    where
      rest : (x s : ℕ) → w ≡ x → g ≡ s → 1 ≤ o → x + o - 1 + 1 - s ≡ w + o - g
      rest x s e f u = omega arith

  pub later_room : (w + o < top) × (g ≤ w + o) × (w + o - g < 2 ^ 32) × (1 ≤ w + o - g)
  later_room = (omega (arith, l.room, e), part later_own.from, omega (arith, later_own.to, year_most (G.leap_at (biased_year_value y))), later_own.from)
    where
      part : 1 ≤ w + o - g → g ≤ w + o
      part u = omega arith

  pub later_spot : {b : Bool} (s : S.Spot) → b ≡ G.leap_at (biased_year_value y) → SpotAt (w + o - 1) y (w + o - g) b s → OnSpot r s × (r ≤ s.biased)
  later_spot s i q =
      let n : r ≤ w + o - 1 = omega (arith, l.from, e) in
      (spot_new h n later_own i q, subst (λ (s : S.Spot). r ≤ s.biased) (sym q.is) n)

  pub turned_day : {b : Bool} (s : S.Spot) {n : ℕ} → b ≡ G.leap_at (biased_year_value y) → SpotAt (w + o - 1) y (w + o - g) b s → n < 4_294_967_296
      → s.biased + 1 - month_first_value r (biased_year_value s.year) s.month ≡ n → TurnsOrdinal r y o (pair (s.month * 32 + s.day) n)
  turned_day s {n} i q u v =
      let (a, m) = later_spot s i q in
      let x : s.year ≡ y = ap (λ (s : S.Spot). s.year) q.is in
      let k : s.biased ≡ w + o - 1 = ap (λ (s : S.Spot). s.biased) q.is in
      subst (λ (y : ℕ). TurnsOrdinal r y o (pair (s.month * 32 + s.day) n)) x
      (turns_day (sum k (year_first r (biased_year_value s.year)) (e ∙ ap (λ (y : ℕ). year_first r (biased_year_value y)) (sym x)) l.some) (labelled_new a m) (month_few (labelled_new a m)) u v)
    where
      sum : s.biased ≡ w + o - 1 → (z : ℕ) → w ≡ z → 1 ≤ o → s.biased + 1 ≡ z + o
      sum k z e u = omega arith

pub turning_ordinal : {r y o t : ℕ} (m : ℕ) → m ≡ 0 → TurnsOrdinal r y o t → Turns r y m o t
turning_ordinal m e p = rw e p

pub turning_label : {r y d t : ℕ} (m : ℕ) → 1 ≤ m → TurnsLabel r y m d t → Turns r y m d t
turning_label zero h p = absurd (nought h)
  where
    nought : 1 ≤ zero → ⊥
    nought h = omega arith
turning_label (suc m) h p = p

pub label_turning : {r y d t : ℕ} (m : ℕ) → 1 ≤ m → Turns r y m d t → TurnsLabel r y m d t
label_turning zero h p = absurd (nought h)
  where
    nought : 1 ≤ zero → ⊥
    nought h = omega arith
label_turning (suc m) h p = p

-- a label in the Gregorian reckoning
module _ {r y m d t : ℕ} {b : Bool} (h : BiasedYear (biased_year_value y)) (e : b ≡ G.leap_at (biased_year_value y)) (f : t ≡ G.start (biased_year_value y)) where
  pub reads_new : {s : S.Spot} → ReadsLabel b t y m d (Some s) → r ≤ s.biased → OnSpot r s
  reads_new (reads_at v q) g = new g (read_at G.leap_at G.start y m d h e f v q)

  pub reads_room : {s : S.Spot} {j w : ℕ} → ReadsLabel b t y m d (Some s) → r ≤ s.biased → j ≡ J.start (biased_year_value y) → w ≡ first_day_value r j t → (w ≤ s.biased) × (s.biased + 1 - w < 4_294_967_296)
  reads_room {s} {j} {w} (reads_at {o} v q) g i k =
      let a = read_at G.leap_at G.start y m d h e f v q in
      first_cases r j t (λ u z. omega (arith, k, z, i, f, a.adds, at_few a, at_from a, year_close a)) (λ u x z. omega (arith, k, z, i, f, a.adds, at_few a, at_from a)) (λ u x z. omega (arith, k, z, i, f, a.adds, at_few a, at_from a))

  pub turned_none : {k : ℕ} → ReadsLabel b t y m d None → RefusesNonGregorian r y m d k → TurnsLabel r y m d k
  turned_none (reads_none n) (taken_away v g) = turns_gap v (month_over g)
  turned_none (reads_none n) (never_there g) = turns_none (λ v. n (subst (λ (b : Bool). ThereIn b m d) (sym e) v)) g

  pub turned_gap : {s : S.Spot} → ReadsLabel b t y m d (Some s) → s.biased < r → TurnsLabel r y m d 5
  turned_gap (reads_at v q) g =
      let a = read_at G.leap_at G.start y m d h e f v q in
      turns_gap (there_too (biased_year_value y) m d a.there) (day_before a.there (subst (λ (n : ℕ). n < r) (sym (at_number a)) g))

  pub turned_at : {s : S.Spot} {j w n : ℕ} → ReadsLabel b t y m d (Some s) → r ≤ s.biased → j ≡ J.start (biased_year_value y) → w ≡ first_day_value r j t → n < 4_294_967_296
      → s.biased + 1 - month_first_value r (biased_year_value s.year) s.month ≡ n → TurnsLabel r y m d (pair (s.biased + 1 - w) n)
  turned_at {w = w} (reads_at {o} v q) g i k u z = turns_at {i = t + o - 1 + 1 - w} g (read_at G.leap_at G.start y m d h e f v q) (omega (arith, reads_room (reads_at v q) g i k)) u (ap (λ (x : ℕ). t + o - 1 + 1 - x) (sym (k ∙ ap₂ (first_day_value r) i f))) z

-- the month of a Gregorian day
pub month_room : {r : ℕ} (s : S.Spot) {a j : ℕ} → OnSpot r s → r ≤ s.biased → j ≡ julian_month_value (biased_year_value s.year) s.month → a ≡ first_day_value r j (s.biased + 1 - s.day)
    → (a ≤ s.biased + 1) × (s.biased + 1 - a < 2 ^ 32) × (s.biased + 1 - month_first_value r (biased_year_value s.year) s.month ≡ s.biased + 1 - a)
month_room {r} s {a} {j} l h e f =
    let g : a ≡ first_day_value r (julian_month_value (biased_year_value s.year) s.month) (s.biased + 1 - s.day) = f ∙ ap (λ (j : ℕ). first_day_value r j (s.biased + 1 - s.day)) e in
    let (x, y) = reform_month_room s l h g in
    (x, y, ap (λ (n : ℕ). s.biased + 1 - n) (sym (g ∙ ap (first_day_value r (julian_month_value (biased_year_value s.year) s.month)) (sym (month_begins (labelled_new l h))))))
