-- A promise allows one answer, whatever the day on which the calendar switches.
-- Assumes nothing.
use Rattle.std.specs.Prelude.{◌≡◌, refl, Bool, ℕ, ◌+◌, ◌-◌, ◌≤◌, ◌<◌, ℤ, Result, Ok}
use Rattle.std.proofs.Common.{sym, ◌∙◌, ap, arith}
use Rattle.whole.specs.Biased.{unbias_injective}
use Rattle.days.specs.BiasedDays.{day_bias}
use Rattle.days.proofs.ClosedJulian as J
use Rattle.days.proofs.ClosedGregorian as G
use Rattle.days.specs.ClosedNumbers.{There, number}
use Rattle.days.specs.ClosedRuns.{gregorian_month, ComesBefore, day_before, month_over}
use Rattle.days.specs.ReformationRules.{Outcome, accepted, refused_1, refused_2, Judged}
use Rattle.days.proofs.ReformationTable.{judged_one}
use Rattle.inner.specs.Natural.{biased_year_value}
use Rattle.switches.specs.declared.PlainYear.{PlainYear}
use Rattle.inner.specs.Spots.{At, spot, at_number}
use Rattle.switches.specs.Promise.{YearSpan, YearIn, begins_old, begins_new, SpansMonth, spans_month, no_month, NoneBelow, NotOver, Finds, finds_old, finds_new, finds_gap, finds_none, RefusesNonGregorian, taken_away, never_there, Judges, accepts_biased, refuses_with_1, refuses_with_2}
use Rattle.refusals.specs.declared.Refusal.{Refusal}
use Rattle.switches.specs.declared.MonthSpan.{MonthSpan}
use Rattle.inner.specs.declared.Spot.{Spot}
use Rattle.switches.specs.declared.reformation.ReformingError.{ReformingError}

pub year_span_one : (r y : ℕ) {a b i j : ℕ} → YearSpan r y a b → YearSpan r y i j → (a ≡ i) × (b ≡ j)
year_span_one r y s t = (s.first_is ∙ sym t.first_is, s.past_is ∙ sym t.past_is)

not_both : {r : ℕ} (k : ℕ) → k < r → r ≤ k → ⊥
not_both k g h = omega arith

pub year_in_one : (r y : ℕ) (p q : PlainYear) → YearIn r y p → YearIn r y q → p ≡ q
year_in_one r y p q (begins_old g) (begins_old h) = refl
year_in_one r y p q (begins_old g) (begins_new h) = absurd (not_both (J.start y) g h)
year_in_one r y p q (begins_new g) (begins_old h) = absurd (not_both (J.start y) h g)
year_in_one r y p q (begins_new g) (begins_new h) = refl

pub spans_month_one : (r y m : ℕ) (a b : Result MonthSpan Refusal) → SpansMonth r y m a → SpansMonth r y m b → a ≡ b
spans_month_one r y m a b (spans_month v) (spans_month w) = refl
spans_month_one r y m a b (spans_month v) (no_month n) = absurd (n v)
spans_month_one r y m a b (no_month n) (spans_month v) = absurd (n v)
spans_month_one r y m a b (no_month n) (no_month i) = refl

-- a label that is there has one day in a reckoning, and one ordinal
module _ {leap_at : ℕ → Bool} {start : ℕ → ℕ} {k l y m d o p : ℕ} (z : ℕ) (a : At leap_at start k y m d o) (b : At leap_at start l y m d p) where
  same_spot : spot k z o m d ≡ spot l z p m d
  same_spot =
      let e : k ≡ l = sym (at_number a) ∙ at_number b in
      let f : o ≡ p = sym a.ordinal_is ∙ b.ordinal_is in
      cc

-- a Julian day before r leaves no room for an answer without one
not_below : (y : ℕ) {r m d k o : ℕ} → k < r → At J.leap_at J.start k (biased_year_value y) m d o → NoneBelow r y m d → ⊥
not_below y {r} {m} {d} {k} g a n = never (number J.leap_at J.start (biased_year_value y) m d) (at_number a) (n a.there)
  where
    never : (i : ℕ) → i ≡ k → r ≤ i → ⊥
    never i e h = omega arith

-- the label of a Gregorian day from r on does not come before that of r
not_in_gap : (y : ℕ) {r m d k o : ℕ} → r ≤ k → At G.leap_at G.start k (biased_year_value y) m d o → ComesBefore r (biased_year_value y) m d → ⊥
not_in_gap y {r} {m} {d} {k} g a (day_before t h) = never (number G.leap_at G.start (biased_year_value y) m d) (at_number a) h
  where
    never : (i : ℕ) → i ≡ k → i < r → ⊥
    never i e f = omega arith
not_in_gap y {r} {m} {d} {k} g a (month_over h) = never (gregorian_month (biased_year_value y) m) a.there.2 a.there.3 (at_number a) h
  where
    never : (i : ℕ) {n : ℕ} → 1 ≤ d → d ≤ n → i + d - 1 ≡ k → i + n ≤ r → ⊥
    never i u v e f = omega arith

-- nor does a label that the Gregorian calendar has not, of a month that is not over
not_over_yet : (y : ℕ) {r m d : ℕ} → ¬ There G.leap_at (biased_year_value y) m d → NotOver r y m d → There J.leap_at (biased_year_value y) m d → ComesBefore r (biased_year_value y) m d → ⊥
not_over_yet y n i t (day_before u h) = n u
not_over_yet y {r} n i t (month_over h) = not_both r (i t) h

pub finds_one : (r y m d : ℕ) (a b : Result Spot Refusal) → Finds r y m d a → Finds r y m d b → a ≡ b
finds_one r y m d a b (finds_old g s) (finds_old h t) = ap Ok (same_spot y s t)
finds_one r y m d a b (finds_old g s) (finds_new h t n) = absurd (not_below y g s n)
finds_one r y m d a b (finds_old g s) (finds_gap t n h) = absurd (not_below y g s (λ i. n))
finds_one r y m d a b (finds_old g s) (finds_none t n h) = absurd (not_below y g s n)
finds_one r y m d a b (finds_new g s n) (finds_old h t) = absurd (not_below y h t n)
finds_one r y m d a b (finds_new g s n) (finds_new h t k) = ap Ok (same_spot y s t)
finds_one r y m d a b (finds_new g s n) (finds_gap t i h) = absurd (not_in_gap y g s h)
finds_one r y m d a b (finds_new g s n) (finds_none t i h) = absurd (t s.there)
finds_one r y m d a b (finds_gap s n g) (finds_old h t) = absurd (not_below y h t (λ i. n))
finds_one r y m d a b (finds_gap s n g) (finds_new h t i) = absurd (not_in_gap y h t g)
finds_one r y m d a b (finds_gap s n g) (finds_gap t i h) = refl
finds_one r y m d a b (finds_gap s n g) (finds_none t i h) = absurd (not_over_yet y t h s g)
finds_one r y m d a b (finds_none s n g) (finds_old h t) = absurd (not_below y h t n)
finds_one r y m d a b (finds_none s n g) (finds_new h t i) = absurd (s t.there)
finds_one r y m d a b (finds_none s n g) (finds_gap t i h) = absurd (not_over_yet y s g t h)
finds_one r y m d a b (finds_none s n g) (finds_none t i h) = refl

pub non_gregorian_one : (r y m d : ℕ) {a b : ℕ} → RefusesNonGregorian r y m d a → RefusesNonGregorian r y m d b → a ≡ b
non_gregorian_one r y m d (taken_away t g) (taken_away u h) = refl
non_gregorian_one r y m d (taken_away t g) (never_there n) = absurd (not_both r (n t) g)
non_gregorian_one r y m d (never_there n) (taken_away t g) = absurd (not_both r (n t) g)
non_gregorian_one r y m d (never_there n) (never_there i) = refl

-- ---- The judgement of a day of reformation
-- an outcome is one of the three
abbrev rank : Outcome → ℕ
rank accepted = 0
rank refused_1 = 1
rank refused_2 = 2

pub apart : {r : ℤ} {o p : Outcome} → Judged r o → Judged r p → rank o ≡ rank p
apart a b = ap rank (judged_one a b)

pub judges_one : (r : ℤ) (a b : Result ℕ ReformingError) → Judges r a → Judges r b → a ≡ b
judges_one r a b (accepts_biased {k} x e) (accepts_biased {k = l} y f) = ap Ok (unbias_injective day_bias k l (e ∙ sym f))
judges_one r a b (accepts_biased x e) (refuses_with_1 y) = absurd (omega (arith, apart x y))
judges_one r a b (accepts_biased x e) (refuses_with_2 y) = absurd (omega (arith, apart x y))
judges_one r a b (refuses_with_1 x) (accepts_biased y f) = absurd (omega (arith, apart x y))
judges_one r a b (refuses_with_1 x) (refuses_with_1 y) = refl
judges_one r a b (refuses_with_1 x) (refuses_with_2 y) = absurd (omega (arith, apart x y))
judges_one r a b (refuses_with_2 x) (accepts_biased y f) = absurd (omega (arith, apart x y))
judges_one r a b (refuses_with_2 x) (refuses_with_1 y) = absurd (omega (arith, apart x y))
judges_one r a b (refuses_with_2 x) (refuses_with_2 y) = refl
