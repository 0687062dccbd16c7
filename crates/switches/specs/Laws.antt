-- From the arithmetic of a label, of a year and of a month to what is said of them.
-- Assumes nothing.
use Rattle.std.specs.Prelude.{◌≡◌, Bool, true, ℕ, ◌+◌, ◌-◌, ◌/◌, ◌<◌, ◌≤◌, T, ltb, leb, pos, Ok, Err, Some, None, Result}
use Rattle.std.proofs.Common.{sym, ◌∙◌, ap, ap₂, subst, arith, add-one, ltb→lt, leb→le}
use Rattle.refusals.specs.declared.Refusal.{Refusal}
use Rattle.refusals.specs.Promise.{refusal}
use Rattle.days.specs.DayByDay as D
use Rattle.days.specs.DayByDay.{month_length, Month}
use Rattle.days.specs.BiasedDays.{BiasedYear}
use Rattle.days.proofs.ClosedYear.{year_length, year_most}
use Rattle.days.specs.ClosedStarts.{Starts}
use Rattle.days.proofs.ClosedJulian as J
use Rattle.days.proofs.ClosedGregorian as G
use Rattle.days.specs.ClosedNumbers.{There, days_before_value, ThereIn}
use Rattle.days.proofs.ReformationTable.{there_too}
use Rattle.days.proofs.ReckoningSteps.{month_some}
use Rattle.days.proofs.ClosedRuns.{top, year_first, first_day_value, first_julian, first_gregorian, first_cases, julian_month_value, gregorian_month, gregorian_past, day_before, month_over, month_first_value, month_past}
use Rattle.inner.specs.Natural.{biased_year_value}
use Rattle.monthdays.specs.Promise.{OrdinalOf, ordinal, no_ordinal}
use Rattle.monthdays.specs.One.{in_year_ordinal}
use Rattle.monthdays.specs.Laws.{in_year_valid, in_year_month}
use Rattle.switches.specs.declared.PlainYear.{PlainYear}
use Rattle.switches.specs.declared.MonthSpan.{MonthSpan}
use Rattle.switches.specs.declared.PlainMonth.{PlainMonth}
use Rattle.inner.specs.declared.Spot as S
use Rattle.inner.specs.Spots.{At, spot, at_number}
use Rattle.switches.specs.Promise.{YearSpan, YearIn, begins_old, begins_new, month_span, SpansMonth, spans_month, NoneBelow, NotOver, Finds, finds_old, finds_new, finds_gap, finds_none, RefusesNonGregorian, taken_away, never_there}
use Rattle.switches.specs.Private.{MonthIn, Reads, reads_at, reads_none, ReadsBelow, below_at, below_none, below_later}

-- ---- The day of a label
module _ (leap_at : ℕ → Bool) (start : ℕ → ℕ) (y m d : ℕ) {b : Bool} {t : ℕ} (h : BiasedYear (biased_year_value y)) (e : b ≡ leap_at (biased_year_value y)) (f : t ≡ start (biased_year_value y)) where
  read_there : ThereIn b m d → There leap_at (biased_year_value y) m d
  read_there v = (v.0, v.1, v.2, subst (λ (b : Bool). d ≤ month_length b m) e v.3)

  pub read_at : {o : ℕ} → ThereIn b m d → days_before_value b m + d ≡ o → At leap_at start (t + o - 1) (biased_year_value y) m d o
  read_at {o} v q = record {
    biased = h;
    there = read_there v;
    ordinal_is = ap (λ (b : Bool). days_before_value b m + d) (sym e) ∙ q;
    adds = ap (λ (s : ℕ). s + o) (sym f) ∙ sum t (some (days_before_value b m) q v.2);
  }
    where
      some : (i : ℕ) → i + d ≡ o → 1 ≤ d → 1 ≤ o
      some i u w = omega arith

      sum : (s : ℕ) → 1 ≤ o → s + o ≡ s + o - 1 + 1
      sum s u = omega arith

  read_none : ¬ ThereIn b m d → ¬ There leap_at (biased_year_value y) m d
  read_none n t = n (t.0, t.1, t.2, subst (λ (b : Bool). d ≤ month_length b m) (sym e) t.3)

-- what the Julian calendar does not have the Gregorian one does not have either, and no day bears it
pub julian_none : {r : ℕ} (y : ℕ) {m d : ℕ} → ¬ There J.leap_at (biased_year_value y) m d → Finds r y m d (Err (refusal 4 0 (pos d)))
julian_none y {m} {d} n = finds_none (λ t. n (there_too (biased_year_value y) m d t)) (λ t. absurd (n t)) (λ t. absurd (n t))

module _ {r y m d t : ℕ} {b : Bool} (h : BiasedYear (biased_year_value y)) where
  -- in the Julian reckoning
  pub below_found : {s : S.Spot} → b ≡ J.leap_at (biased_year_value y) → t ≡ J.start (biased_year_value y) → Reads b t y m d (Some s) → s.biased < r → ReadsBelow r y m d (Some (Ok s))
  below_found e f (reads_at v q) g = below_at g (read_at J.leap_at J.start y m d h e f v q)

  pub below_late : {s : S.Spot} → b ≡ J.leap_at (biased_year_value y) → t ≡ J.start (biased_year_value y) → Reads b t y m d (Some s) → r ≤ s.biased → ReadsBelow r y m d None
  below_late e f (reads_at v q) g = below_later (λ i. subst (λ (n : ℕ). r ≤ n) (sym (at_number (read_at J.leap_at J.start y m d h e f v q))) g)

  pub below_not : b ≡ J.leap_at (biased_year_value y) → t ≡ J.start (biased_year_value y) → Reads b t y m d None → ReadsBelow r y m d (Some (Err (refusal 4 0 (pos d))))
  below_not e f (reads_none n) = below_none (read_none J.leap_at J.start y m d h e f n)

  -- in the calendar, from r on
  module _ (e : b ≡ G.leap_at (biased_year_value y)) (f : t ≡ G.start (biased_year_value y)) (n : NoneBelow r y m d) where
    pub new_found : {s : S.Spot} → Reads b t y m d (Some s) → r ≤ s.biased → Finds r y m d (Ok s)
    new_found (reads_at v q) g = finds_new g (read_at G.leap_at G.start y m d h e f v q) n

    pub gap_found : {s : S.Spot} → Reads b t y m d (Some s) → s.biased < r → Finds r y m d (Err (refusal 5 0 (pos d)))
    gap_found (reads_at v q) g =
        let a = read_at G.leap_at G.start y m d h e f v q in
        let i : There J.leap_at (biased_year_value y) m d = there_too (biased_year_value y) m d a.there in
        finds_gap i (n i) (day_before a.there (subst (λ (n : ℕ). n < r) (sym (at_number a)) g))

    pub none_found : {k : ℕ} → Reads b t y m d None → RefusesNonGregorian r y m d k → Finds r y m d (Err (refusal k 0 (pos d)))
    none_found (reads_none x) (taken_away i g) = finds_gap i (n i) (month_over g)
    none_found (reads_none x) (never_there g) = finds_none (read_none G.leap_at G.start y m d h e f x) n g

-- no Julian day of a year that begins from r on is before r
pub below_year : {r y m d t : ℕ} → t ≡ J.start (biased_year_value y) → r ≤ t → ReadsBelow r y m d None
below_year {r} {y} {m} {d} f g = below_later (λ i. after (days_before_value (J.leap_at (biased_year_value y)) m) (subst (λ (n : ℕ). r ≤ n) f g) i.2)
  where
    after : (k : ℕ) {s : ℕ} → r ≤ s → 1 ≤ d → r ≤ s + k + d - 1
    after k g i = omega arith

-- what is below r says of the calendar
pub below_answered : {r y m d : ℕ} {a : Result S.Spot Refusal} → ReadsBelow r y m d (Some a) → Finds r y m d a
below_answered (below_at g a) = finds_old g a
below_answered {y = y} (below_none n) = julian_none y n

pub later_none : {r y m d : ℕ} → ReadsBelow r y m d None → NoneBelow r y m d
later_none (below_later n) = n

-- ---- The days of a year

-- its first days in the two reckonings are close, so no place in it is large
pub starts_close : (y : ℕ) → y < 4_294_967_648 → G.start y ≤ J.start y + 30_000_000
starts_close y h = sum (J.start y) ((y + 399) / 400) ((y + 99) / 100) (omega arith) (omega arith)
  where
    sum : (a c b : ℕ) → c ≤ 10_737_422 → b ≤ 42_949_678 → a + c + 16_106_132 - b ≤ a + 30_000_000
    sum a c b h g = omega arith

next_start : {leap_at : ℕ → Bool} {start : ℕ → ℕ} {reckoning : D.Reckoning} → Starts reckoning leap_at start → (y : ℕ) → start (y + 1) ≡ start y + year_length (leap_at y)
next_start {start = start} s y = ap start (add-one y) ∙ s.start_next y

-- the first days of a year and of the next, as they are computed
pub year_span_is : (r y : ℕ) {a b l n : ℕ} → y < 4_294_967_648 → a ≡ J.start y → b ≡ G.start y → l ≡ year_length (J.leap_at y) → n ≡ year_length (G.leap_at y)
    → {i j : ℕ} → i ≡ first_day_value r a b → j ≡ first_day_value r (a + l) (b + n) → YearSpan r y i j
year_span_is r y {a} {b} {l} {n} h e f g k p q = record {
  first_is = p ∙ ap₂ (first_day_value r) e f;
  past_is = q ∙ ap₂ (first_day_value r) (ap₂ ◌+◌ e g ∙ sym (next_start J.starts y)) (ap₂ ◌+◌ f k ∙ sym (next_start G.starts y));
  first_room = rw p (room a b (omega arith) (omega arith));
  past_room = rw q (room (a + l) (b + n) (omega (arith, year_most (J.leap_at y))) (omega (arith, year_most (G.leap_at y))));
}
  where
    room : (j g : ℕ) → j < top → g < top → first_day_value r j g < top
    room j g u v = first_cases r j g (λ x e. omega arith) (λ x z e. omega arith) (λ x z e. omega arith)

days : (s n : ℕ) {a b : ℕ} → a ≡ s → b ≡ s + n → b - a ≡ n
days s n e f = omega arith

-- ---- A year in the reckoning in which it begins
pub year_old : {r y t : ℕ} {b : Bool} → t ≡ J.start y → b ≡ J.leap_at y → t < r → YearIn r y (record { first = t; leap = b; whole = ltb (t + 366) r })
year_old {r} e f h = rw (e, f) (begins_old (subst (λ (k : ℕ). k < r) e h))

pub year_new : {r y t u : ℕ} {b : Bool} → t ≡ J.start y → u ≡ G.start y → b ≡ G.leap_at y → r ≤ t → YearIn r y (record { first = u; leap = b; whole = leb r u })
year_new {r} e g f h = rw (g, f) (begins_new (subst (λ (k : ℕ). r ≤ k) e h))

pub year_in_room : {r y : ℕ} {p : PlainYear} → BiasedYear y → YearIn r y p → p.first < 2_000_000_000_000
year_in_room h (begins_old g) = omega (arith, h.to)
year_in_room h (begins_new g) = omega (arith, h.to)

-- a year that is wholly in one, with its first day there and whether it is leap there
pub data Wholly (r y : ℕ) : ℕ → Bool → Type 0 where
  wholly_old : J.start y + 366 < r → Wholly r y (J.start y) (J.leap_at y)
  wholly_new : r ≤ J.start y → r ≤ G.start y → Wholly r y (G.start y) (G.leap_at y)

pub year_wholly : {r y : ℕ} {p : PlainYear} → YearIn r y p → p.whole ≡ true → Wholly r y p.first p.leap
year_wholly {r} {y} (begins_old g) e = wholly_old (ltb→lt (J.start y + 366) r (subst T (sym e) tt))
year_wholly {r} {y} (begins_new g) e = wholly_new g (leb→le r (G.start y) (subst T (sym e) tt))

-- no month of a year that begins from r on is over by r
not_over : {r : ℕ} (y m d : ℕ) → r ≤ G.start y → There J.leap_at y m d → r < gregorian_past y m
not_over {r} y m d h t = after (G.start y) (days_before_value (G.leap_at y) m) h (month_some (G.leap_at y) m t.0 t.1)
  where
    after : (s b : ℕ) {n : ℕ} → r ≤ s → 1 ≤ n → r < s + b + n
    after s b h k = omega arith

-- what its reckoning does not have there is nowhere in the other one
pub wholly_none : {r : ℕ} (y : ℕ) {t m d : ℕ} {b : Bool} → Wholly r (biased_year_value y) t b → ¬ ThereIn b m d → (¬ There G.leap_at (biased_year_value y) m d) × NoneBelow r y m d × NotOver r y m d
wholly_none y {m = m} {d} (wholly_old g) n = (λ v. n (there_too (biased_year_value y) m d v), λ v. absurd (n v), λ v. absurd (n v))
wholly_none {r} y {m = m} {d} (wholly_new g h) n = (n, λ v. late (J.start (biased_year_value y)) (days_before_value (J.leap_at (biased_year_value y)) m) g v.2, not_over (biased_year_value y) m d h)
  where
    late : (s b : ℕ) → r ≤ s → 1 ≤ d → r ≤ s + b + d - 1
    late s b g h = omega arith

-- it has as many days as in its reckoning
pub wholly_days : {r : ℕ} (y : ℕ) {t : ℕ} {b : Bool} → Wholly r y t b → year_first r (y + 1) - year_first r y ≡ year_length b
wholly_days {r} y (wholly_old g) = days (J.start y) (year_length (J.leap_at y)) (first_julian r (J.start y) (G.start y) (omega arith))
    (first_julian r (J.start (y + 1)) (G.start (y + 1)) (omega (arith, next, year_most (J.leap_at y))) ∙ next)
  where
    next : J.start (y + 1) ≡ J.start y + year_length (J.leap_at y)
    next = ap J.start (add-one y) ∙ (J.starts).start_next y
wholly_days {r} y (wholly_new g h) = days (G.start y) (year_length (G.leap_at y)) (first_gregorian r (J.start y) (G.start y) g h)
    (first_gregorian r (J.start (y + 1)) (G.start (y + 1)) (later (J.start y) (year_length (J.leap_at y)) (ap J.start (add-one y) ∙ (J.starts).start_next y) g) (later (G.start y) (year_length (G.leap_at y)) next h) ∙ next)
  where
    next : G.start (y + 1) ≡ G.start y + year_length (G.leap_at y)
    next = ap G.start (add-one y) ∙ (G.starts).start_next y

    later : (s n : ℕ) {k : ℕ} → k ≡ s + n → r ≤ s → r ≤ k
    later s n e h = omega arith

-- ---- A reading from the ordinal of a month and a day
pub ordinal_some : {leap : Bool} {m d o : ℕ} → OrdinalOf leap m d (Some o) → 1 ≤ o
ordinal_some (ordinal p) = p.from

pub ordinal_sum : {leap : Bool} {m d o : ℕ} → OrdinalOf leap m d (Some o) → ThereIn leap m d × (days_before_value leap m + d ≡ o)
ordinal_sum {leap} {m} {d} (ordinal p) =
    let (v, f, t) = in_year_valid leap p in
    ((v.0, v.1, f, t), in_year_ordinal (in_year_month leap m d v f t) p)

pub reading_at : {leap : Bool} {t y m d o : ℕ} → OrdinalOf leap m d (Some o) → Reads leap t y m d (Some (spot (t + o - 1) y o m d))
reading_at p = let (v, e) = ordinal_sum p in reads_at v e

pub ordinal_none : {leap : Bool} {m d : ℕ} → OrdinalOf leap m d None → ¬ ThereIn leap m d
ordinal_none {leap} {m} {d} (no_ordinal n) v = n (days_before_value leap m + d) (in_year_month leap m d (v.0, v.1) v.2 v.3)

pub reading_none : {leap : Bool} {t y m d : ℕ} → OrdinalOf leap m d None → Reads leap t y m d None
reading_none n = reads_none (ordinal_none n)

-- ---- The days of a month
pub month_has_first : {leap : Bool} {m : ℕ} → Month m → OrdinalOf leap m 1 None → ⊥
month_has_first {leap} {m} v (no_ordinal n) = n (days_before_value leap m + 1) (in_year_month leap m 1 v (omega arith) (month_some leap m v.0 v.1))

-- in one reckoning
pub month_in_is : {leap : Bool} {t m n o : ℕ} → n ≡ month_length leap m → OrdinalOf leap m 1 (Some o) → MonthIn leap t m (record { first = t + o - 1; days = n })
month_in_is {leap} {t} {m} {o = o} e p = record { first_is = sum (days_before_value leap m) (ordinal_sum p).1; days_is = e }
  where
    sum : (b : ℕ) → b + 1 ≡ o → t + o - 1 ≡ t + b
    sum b q = omega arith

module _ (leap_at : ℕ → Bool) (start : ℕ → ℕ) (y : ℕ) {m t : ℕ} {b : Bool} {p : PlainMonth} (e : b ≡ leap_at y) (f : t ≡ start y) (i : MonthIn b t m p) where
  pub plain_first : p.first ≡ start y + days_before_value (leap_at y) m
  plain_first = i.first_is ∙ ap₂ ◌+◌ f (ap (λ (b : Bool). days_before_value b m) e)

  pub plain_past : p.first + p.days ≡ start y + days_before_value (leap_at y) m + month_length (leap_at y) m
  plain_past = ap₂ ◌+◌ plain_first (i.days_is ∙ ap (λ (b : Bool). month_length b m) e)

-- in the calendar, as they are computed
pub month_span_is : (r y m : ℕ) {j g j' g' a b : ℕ} → Month m → j ≡ julian_month_value y m → g ≡ gregorian_month y m → j' ≡ julian_month_value y m + month_length (J.leap_at y) m → g' ≡ gregorian_month y m + month_length (G.leap_at y) m
    → a ≡ first_day_value r j g → b ≡ first_day_value r j' g' → SpansMonth r y m (Ok (record { switch = r; first = a; past = b; gregorian = g }))
month_span_is r y m {g = g} {a = a} {b} v e f h i p q =
    let first : a ≡ month_first_value r y m = p ∙ ap₂ (first_day_value r) e f in
    let past : b ≡ month_past r y m = q ∙ ap₂ (first_day_value r) h i in
    let same : record { switch = r; first = a; past = b; gregorian = g } ≡ month_span r y m = cc in
    subst (λ (s : MonthSpan). SpansMonth r y m (Ok s)) (sym same) (spans_month v)

-- ---- A label that the Gregorian calendar does not have
pub non_gregorian_year : {r m d t : ℕ} (y : ℕ) → t ≡ G.start (biased_year_value y) → r ≤ t → RefusesNonGregorian r y m d 4
non_gregorian_year {r} {m} {d} y f g = never_there (not_over (biased_year_value y) m d (subst (λ (n : ℕ). r ≤ n) f g))

pub non_julian : {r m d : ℕ} (y : ℕ) {b : Bool} → b ≡ J.leap_at (biased_year_value y) → OrdinalOf b m d None → RefusesNonGregorian r y m d 4
non_julian {m = m} {d} y e n = never_there (λ v. absurd (ordinal_none n (subst (λ (b : Bool). ThereIn b m d) (sym e) v)))

module _ {r m d t o : ℕ} (y : ℕ) {b c : Bool} {p : PlainMonth} (e : b ≡ J.leap_at (biased_year_value y)) (i : c ≡ G.leap_at (biased_year_value y)) (f : t ≡ G.start (biased_year_value y))
    (a : OrdinalOf b m d (Some o)) (q : MonthIn c t m p) where
  pub over_by_then : p.first + p.days ≤ r → RefusesNonGregorian r y m d 5
  over_by_then g = taken_away (subst (λ (b : Bool). ThereIn b m d) e (ordinal_sum a).0) (subst (λ (n : ℕ). n ≤ r) (plain_past G.leap_at G.start (biased_year_value y) i f q) g)

  pub not_over_then : r < p.first + p.days → RefusesNonGregorian r y m d 4
  not_over_then g = never_there (λ v. subst (λ (n : ℕ). r < n) (plain_past G.leap_at G.start (biased_year_value y) i f q) g)
