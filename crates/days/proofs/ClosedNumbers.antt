-- The day of a label in one calendar, by arithmetic on the naturals that days and years are biased as: its number, and that a label with no number is borne by no day.
-- Assumes nothing.
use Rattle.std.specs.Prelude.{◌≡◌, refl, Bool, true, false, cond, ◌&&◌, ℕ, zero, suc, ◌+◌, ◌-◌, ◌<◌, ◌≤◌, T, ltb, leb, ℤ}
use Rattle.std.proofs.Common.{sym, ◌∙◌, ap, subst, subst₂, arith, add-one, ⊎_elim, lt-ltb, le-ltb, leb→le, ltb→lt}
use Rattle.std.proofs.Math.IntN.{suc_ℤ}
use Rattle.days.specs.DayByDay.{Borne, label, LeapRule, Reckoning, month_length, next_label, label_of}
use Rattle.whole.specs.Tests.{lt_or_ge, all_at, and_left, and_right}
use Rattle.days.proofs.ReckoningSteps.{Valid, label_valid, label_suc, month_some, next_month_lem, next_year}
use Rattle.days.proofs.ClosedYear.{year_length, DayOfMonth, year_most}
use Rattle.days.proofs.ClosedMonths.{twelve, Before, before_first, before_next, ordinal_is, ordinal_within}
use Rattle.whole.specs.Biased.{unbias_suc}
use Rattle.days.specs.BiasedDays.{day_bias, day, year}
use Rattle.days.proofs.ClosedStarts.{Starts, label_of_lem}
use Rattle.days.proofs.RisingSpans.{next_month}
pub use Rattle.days.specs.ClosedNumbers.{days_before_value, ThereIn, There, number, to_thirty_value, month_at}

adds : (b : Bool) (m : ℕ) → 1 ≤ m → m ≤ 12 → m < 12 → days_before_value b (suc m) ≡ days_before_value b m + month_length b m
unfolding month_length
adds true = twelve (λ m. m < 12 → days_before_value true (suc m) ≡ days_before_value true m + month_length true m)
    (λ h. refl) (λ h. refl) (λ h. refl) (λ h. refl) (λ h. refl) (λ h. refl) (λ h. refl) (λ h. refl) (λ h. refl) (λ h. refl) (λ h. refl) (λ h. omega arith)
adds false = twelve (λ m. m < 12 → days_before_value false (suc m) ≡ days_before_value false m + month_length false m)
    (λ h. refl) (λ h. refl) (λ h. refl) (λ h. refl) (λ h. refl) (λ h. refl) (λ h. refl) (λ h. refl) (λ h. refl) (λ h. refl) (λ h. refl) (λ h. omega arith)

pub before : (b : Bool) (m : ℕ) → 1 ≤ m → m ≤ 12 → Before b m (days_before_value b m)
before b zero h k = absurd (never h)
  where
    never : 1 ≤ zero → ⊥
    never h = omega arith
before b (suc zero) h k = subst (Before b 1) (first b) (before_first b)
  where
    first : (b : Bool) → 0 ≡ days_before_value b 1
    first b = refl
before b (suc (suc m)) h k = subst₂ (Before b) (add-one (suc m)) (sym (adds b (suc m) (omega arith) (omega arith) (omega arith)))
    (before_next b (suc m) (days_before_value b (suc m)) (month_length b (suc m)) (omega arith) (omega arith) refl (before b (suc m) (omega arith) (omega arith)))

module _ {c : Reckoning} {leap_at : ℕ → Bool} {start : ℕ → ℕ} (s : Starts c leap_at start) where
  pub numbered : (y m d : ℕ) → There leap_at y m d → label_of c (day (number leap_at start y m d)) ≡ label (year y) m d
  numbered y m d (h, k, g, l) =
      label_of_lem s (number leap_at start y m d) y (days_before_value (leap_at y) m + d)
      (record { from = omega arith; to = ordinal_within (leap_at y) m (days_before_value (leap_at y) m) d h k l (before (leap_at y) m h k); adds = sum (start y) (days_before_value (leap_at y) m) d g })
      ∙ ap (λ (p : DayOfMonth). label (year y) p.month p.day) (ordinal_is (leap_at y) m (days_before_value (leap_at y) m) d h k g l (before (leap_at y) m h k))
    where
      sum : (a b d : ℕ) → 1 ≤ d → a + (b + d) ≡ a + b + d - 1 + 1
      sum a b d h = omega arith

  pub there : (y m d : ℕ) → Borne (label_of c) (label (year y) m d) → There leap_at y m d
  there y m d (n, e) =
      let v : Valid c.leap (label (year y) m d) = subst (Valid c.leap) e (label_valid c s.anchor_valid n) in
      (v.month_from, v.month_to, v.day_from, subst (λ (b : Bool). d ≤ month_length b m) (s.leap_is y) v.day_to)

pub within_year : (leap_at : ℕ → Bool) (start : ℕ → ℕ) (y m d : ℕ) → There leap_at y m d → number leap_at start y m d < start y + 366
within_year leap_at start y m d (h, k, g, l) =
    sum (start y) (days_before_value (leap_at y) m) d g (ordinal_within (leap_at y) m (days_before_value (leap_at y) m) d h k l (before (leap_at y) m h k)) (year_most (leap_at y))
  where
    sum : (a b d : ℕ) {n : ℕ} → 1 ≤ d → b + d ≤ n → n ≤ 366 → a + b + d - 1 < a + 366
    sum a b d g h k = omega arith

-- the first day of a month
module _ {c : Reckoning} {leap_at : ℕ → Bool} {start : ℕ → ℕ} (s : Starts c leap_at start) where
  pub month_first : (y m : ℕ) → 1 ≤ m → m ≤ 12 → label_of c (day (start y + days_before_value (leap_at y) m)) ≡ label (year y) m 1
  month_first y m h k = ap (λ (n : ℕ). label_of c (day n)) (one (start y + days_before_value (leap_at y) m))
      ∙ numbered s y m 1 (h, k, omega arith, month_some (leap_at y) m h k)
    where
      one : (a : ℕ) → a ≡ a + 1 - 1
      one a = omega arith

-- and of the next month
pub next_is : (leap : LeapRule) (y : ℤ) (m d : ℕ) → month_length (leap y) m ≤ d → next_label leap (label y m d) ≡ next_month y m
next_is leap y m d h = ⊎_elim
    (λ k. next_month_lem leap (label y m d) h k ∙ ap (λ (t : Bool). cond t (label y (suc m) 1) (label (suc_ℤ y) 1 1)) (sym (lt-ltb m 12 k)))
    (λ k. next_year leap (label y m d) h k ∙ ap (λ (t : Bool). cond t (label y (suc m) 1) (label (suc_ℤ y) 1 1)) (sym (le-ltb m 12 k)))
    (lt_or_ge m 12)

module _ {c : Reckoning} {leap_at : ℕ → Bool} {start : ℕ → ℕ} (s : Starts c leap_at start) where
  pub month_past_lem : (y m : ℕ) → 1 ≤ m → m ≤ 12
      → label_of c (day (start y + days_before_value (leap_at y) m + month_length (leap_at y) m)) ≡ next_month (year y) m
  month_past_lem y m h k =
      let n : ℕ = month_length (leap_at y) m in
      let l : 1 ≤ n = month_some (leap_at y) m h k in
      ap (λ (n : ℕ). label_of c (day n)) (one (start y + days_before_value (leap_at y) m) n l)
      ∙ ap (label_of c) (unbias_suc day_bias (number leap_at start y m n))
      ∙ label_suc c s.anchor_valid (day (number leap_at start y m n))
      ∙ ap (next_label c.leap) (numbered s y m n (h, k, l, omega arith))
      ∙ next_is c.leap (year y) m n (subst (λ (b : Bool). month_length b m ≤ n) (sym (s.leap_is y)) (omega arith))
    where
      one : (a n : ℕ) → 1 ≤ n → a + n ≡ suc (a + n - 1)
      one a n h = omega arith

pub few_before : (b : Bool) (m : ℕ) → 1 ≤ m → m ≤ 12 → days_before_value b m ≤ 366
few_before b m h k = omega (arith, (before b m h k).left, year_most b)

-- computed at each day of a year
month_test : Bool → ℕ → ℕ → Bool
month_test b o m = leb 1 m && (leb m 12 && (ltb (days_before_value b m) o && leb o (days_before_value b m + month_length b m)))

month_test_lem : (b : Bool) (i : ℕ) → i < year_length b → T (month_test b (suc i) (month_at b (suc i)))
unfolding month_test month_length
month_test_lem true i h = all_at (λ i. month_test true (suc i) (month_at true (suc i))) 366 tt i h
month_test_lem false i h = all_at (λ i. month_test false (suc i) (month_at false (suc i))) 365 tt i h

month_tested : (b : Bool) (o m : ℕ) → T (month_test b o m) → (1 ≤ m) × (m ≤ 12) × (days_before_value b m < o) × (o ≤ days_before_value b m + month_length b m)
unfolding month_test
month_tested b o m t =
    let u = and_right (leb 1 m) _ t in
    let v = and_right (leb m 12) _ u in (
      leb→le 1 m (and_left (leb 1 m) _ t),
      leb→le m 12 (and_left (leb m 12) _ u),
      ltb→lt (days_before_value b m) o (and_left (ltb (days_before_value b m) o) _ v),
      leb→le o (days_before_value b m + month_length b m) (and_right (ltb (days_before_value b m) o) _ v),
    )

pub month_at_lem : (b : Bool) (o : ℕ) → 1 ≤ o → o ≤ year_length b
    → (1 ≤ month_at b o) × (month_at b o ≤ 12) × (days_before_value b (month_at b o) < o) × (o ≤ days_before_value b (month_at b o) + month_length b (month_at b o))
month_at_lem b o h g = month_tested b o (month_at b o) (subst (λ (o : ℕ). T (month_test b o (month_at b o))) (back o h) (month_test_lem b (o - 1) (omega arith)))
  where
    back : (o : ℕ) → 1 ≤ o → suc (o - 1) ≡ o
    back o h = omega arith
