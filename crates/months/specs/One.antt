-- Two results that a promise allows for one input are equal: a theorem for each promise.
-- Assumes nothing.
use Rattle.std.specs.Prelude.{◌≡◌, refl, ℕ, ℤ, Result, Ok}
use Rattle.std.proofs.Common.{sym, ◌∙◌, ap, ap₂, subst}
use Rattle.whole.specs.Biased.{unbias_injective}
use Rattle.whole.specs.Integers.{antisym}
use Rattle.days.specs.DayByDay.{Label, label, OfMonth, Rises, DayOrdinal}
use Rattle.days.proofs.RisingLabels.{once, place_one, nth_one, days_one}
use Rattle.days.specs.BiasedDays.{year_bias}
use Rattle.days.proofs.ClosedRuns.{runs_one}
use Rattle.days.proofs.AcceptedCalendars.{accepted_rises}
use Rattle.switches.specs.Promise.{month_span}
use Rattle.calendar.specs.declared.Calendar.{Calendar}
use Rattle.refusals.specs.declared.Refusal.{Refusal}
use Rattle.calendar.specs.Calendars.{labels, Accepted}
use Rattle.calendar.specs.RowLaws.{One, unless_one, if_one}
use Rattle.calendar.specs.Promise.{Given}
use Rattle.calendar.specs.One.{given_one}
use Rattle.months.specs.Promise.{Number, number, OfAMonth, YearLengthOf, Len, FirstDay, first, no_first, LastDay, last, no_last, FirstDayOf, LastDayOf, Bears, borne, not_borne, Contains, PlaceOf, DayOrdinalOf, IsNth, NthLabel, NthDay, NthRecord, nth_record, NthDate}
use Rattle.months.specs.Natural.{Spans, spanned, no_calendar, no_month}

-- a number with P is one if no two have P
number_one : {P : ℕ → Type 0} → ((k l : ℕ) → P k → P l → k ≡ l) → One (Number P)
number_one same a b (number {k} p) (number {k = l} q) = ap Ok (same k l p q)

of_a_month_one : {A : Type 0} (c : Calendar) (m : ℕ) {Below : Result A Refusal → Type 0} → (Accepted c → One Below) → One (OfAMonth c m Below)
of_a_month_one c m below = unless_one (λ a. unless_one (λ v. below a))

-- ---- Lengths
pub year_length_one : (c : Calendar) (y : ℤ) → One (YearLengthOf c y)
year_length_one c y = unless_one (λ a. number_one (λ k l. days_one))

pub len_one : (c : Calendar) (y : ℤ) (m : ℕ) → One (Len c y m)
len_one c y m = of_a_month_one c m (λ a. number_one (λ k l. days_one))

-- ---- The first and the last day
-- a label of the month
pub label_of_month : {l : Label} {y : ℤ} {m d : ℕ} → l ≡ label y m d → OfMonth y m l
label_of_month e = (ap (λ (l : Label). l.year) e, ap (λ (l : Label). l.month) e)

-- one label has one day of the month
pub same_day : {l k : Label} {y : ℤ} {m d e : ℕ} → l ≡ k → l ≡ label y m d → k ≡ label y m e → d ≡ e
same_day w p q = ap (λ (l : Label). l.day) (sym p ∙ w ∙ q)

module _ {f : ℤ → Label} {y : ℤ} {m : ℕ} where
  first_one : (d e : ℕ) → FirstDay f y m d → FirstDay f y m e → d ≡ e
  first_one d e (first {n} p h) (first {n = k} q g) = same_day (ap f (antisym (h k (label_of_month q)) (g n (label_of_month p)))) p q
  first_one d e (first p h) (no_first g) = absurd (g _ (label_of_month p))
  first_one d e (no_first h) (first q g) = absurd (h _ (label_of_month q))
  first_one d e (no_first h) (no_first g) = refl

  last_one : (d e : ℕ) → LastDay f y m d → LastDay f y m e → d ≡ e
  last_one d e (last {n} p h) (last {n = k} q g) = same_day (ap f (antisym (g n (label_of_month p)) (h k (label_of_month q)))) p q
  last_one d e (last p h) (no_last g) = absurd (g _ (label_of_month p))
  last_one d e (no_last h) (last q g) = absurd (h _ (label_of_month q))
  last_one d e (no_last h) (no_last g) = refl

  -- the k-th day of a month is one day
  pub is_nth_one : {k : ℕ} {n i : ℤ} → IsNth f y m k n → IsNth f y m k i → n ≡ i
  is_nth_one p q = nth_one p.of_month p.place q.of_month q.place

-- and has one day of the month
pub nth_label_one : (f : ℤ → Label) (y : ℤ) (m k d e : ℕ) → NthLabel f y m k d → NthLabel f y m k e → d ≡ e
nth_label_one f y m k d e (n, p, u) (i, q, v) = same_day (ap f (is_nth_one p q)) u v

pub first_day_one : (c : Calendar) (y : ℤ) (m : ℕ) → One (FirstDayOf c y m)
first_day_one c y m = of_a_month_one c m (λ a. number_one first_one)

pub last_day_one : (c : Calendar) (y : ℤ) (m : ℕ) → One (LastDayOf c y m)
last_day_one c y m = of_a_month_one c m (λ a. number_one last_one)

-- ---- A day of the month
bears_one : (f : ℤ → Label) (l : Label) → One (Bears f l)
bears_one f l a b (borne p) (borne q) = refl
bears_one f l a b (borne p) (not_borne q) = absurd (q p)
bears_one f l a b (not_borne p) (borne q) = absurd (p q)
bears_one f l a b (not_borne p) (not_borne q) = refl

pub contains_one : (c : Calendar) (y : ℤ) (m d : ℕ) → One (Contains c y m d)
contains_one c y m d = of_a_month_one c m (λ a. bears_one (labels c) (label y m d))

pub place_of_one : {f : ℤ → Label} {l : Label} → Rises f → (j k : ℕ) → PlaceOf f l j → PlaceOf f l k → j ≡ k
place_of_one {f} up j k (n, e, p) (i, g, q) = place_one p (subst (λ (z : ℤ). DayOrdinal f z k) (once up (g ∙ sym e)) q)

pub day_ordinal_one : (c : Calendar) (y : ℤ) (m d : ℕ) → One (DayOrdinalOf c y m d)
day_ordinal_one c y m d = of_a_month_one c m (λ a. if_one (λ n. if_one (λ s. number_one (place_of_one (accepted_rises a)))))

-- ---- The k-th day of a month
pub nth_day_one : (c : Calendar) (y : ℤ) (m k : ℕ) → One (NthDay c y m k)
nth_day_one c y m k = of_a_month_one c m (λ a. if_one (λ n. number_one (nth_label_one (labels c) y m k)))

nth_record_one : (c : Calendar) (y : ℤ) (m k : ℕ) → One (NthRecord c y m k)
nth_record_one c y m k a b (nth_record {n} p g) (nth_record q h) = given_one c y n a b g (subst (λ (i : ℤ). Given c y i b) (is_nth_one q p) h)

pub nth_date_one : (c : Calendar) (y : ℤ) (m k : ℕ) → One (NthDate c y m k)
nth_date_one c y m k = of_a_month_one c m (λ a. if_one (λ n. nth_record_one c y m k))

-- ---- The run of days of a month
pub spans_one : (c : Calendar) (y : ℤ) (m : ℕ) → One (Spans c y m)
spans_one c y m a b (spanned p) (spanned q) =
    ap Ok (p.span ∙ ap₂ (λ (r i : ℕ). month_span r i m) (runs_one p.runs q.runs) (unbias_injective year_bias p.y q.y (p.year_is ∙ sym q.year_is)) ∙ sym q.span)
spans_one c y m a b (spanned p) (no_calendar n) = absurd (n p.runs.accepted)
spans_one c y m a b (spanned p) (no_month x n) = absurd (n p.is_month)
spans_one c y m a b (no_calendar n) (spanned p) = absurd (n p.runs.accepted)
spans_one c y m a b (no_calendar n) (no_calendar i) = refl
spans_one c y m a b (no_calendar n) (no_month x i) = absurd (n x)
spans_one c y m a b (no_month x n) (spanned p) = absurd (n p.is_month)
spans_one c y m a b (no_month x n) (no_calendar i) = absurd (i x)
spans_one c y m a b (no_month x n) (no_month w i) = refl
