-- What follows from `Rises` alone, for any labelling of the days: labels are in the order of their days, no two days bear one label, and the
-- days of a year, and those of a month, are one run. And what follows from `Place` and `Days` alone: a day has one place, one day has a place.
-- Assumes nothing.
use Rattle.std.specs.Prelude.{◌≡◌, ℕ, zero, suc, ◌<◌, ◌≤◌, ℤ, pos, ◌-ℤ◌, ◌<ℤ◌, ◌≤ℤ◌}
use Rattle.std.proofs.Common.{sym, ◌∙◌, ap, subst, ⊎_elim, arith}
use Rattle.std.proofs.Math.IntN.{+ℤ_idr}
use Rattle.std.specs.Int.Signed.{≤ℤ_refl}
use Rattle.whole.specs.Tests as N
use Rattle.whole.specs.Integers.{lt_or_ge, antisym, le_trans, eq_le, back_mono, back_suc, none_between}
use Rattle.days.specs.DayByDay.{Label, ◌≺◌, Rises, Borne, OfYear, OfMonth, Place, Days}
use Rattle.days.proofs.LabelOrder.{≺-irrefl, ≺-trans, ≺-year, ≺-month}
pub use Rattle.days.specs.RisingLabels.{Run}

-- ---- a labelling that rises
module _ {f : ℤ → Label} (up : Rises f) where
  -- labels are in the order of their days
  pub up_back : {a b : ℤ} → f a ≺ f b → a <ℤ b
  up_back {a} {b} h = ⊎_elim (λ g. g)
      (λ g. ⊎_elim (λ k. absurd (≺-irrefl (≺-trans h (up b a k)))) (λ k. absurd (≺-irrefl (subst (λ (z : ℤ). f a ≺ f z) (antisym g k) h))) (lt_or_ge b a))
      (lt_or_ge a b)

  -- a day that is no later has no later label
  pub no_later : {a b : ℤ} {l : Label} → a ≤ℤ b → f b ≺ l → f a ≺ l
  no_later {a} {b} {l} g q = ⊎_elim (λ h. ≺-trans (up a b h) q) (λ h. subst (λ (z : ℤ). f z ≺ l) (antisym h g) q) (lt_or_ge a b)

  -- and a day that is no earlier has no earlier label
  pub no_earlier : {a b : ℤ} {l : Label} → a ≤ℤ b → l ≺ f a → l ≺ f b
  no_earlier {a} {b} {l} g q = ⊎_elim (λ h. ≺-trans q (up a b h)) (λ h. subst (λ (z : ℤ). l ≺ f z) (antisym g h) q) (lt_or_ge a b)

  -- no two days bear one label
  pub once : {a b : ℤ} → f a ≡ f b → a ≡ b
  once {a} {b} e = ⊎_elim (λ h. absurd (≺-irrefl (subst (λ (l : Label). f a ≺ l) (sym e) (up a b h))))
      (λ h. ⊎_elim (λ k. absurd (≺-irrefl (subst (λ (l : Label). f b ≺ l) e (up b a k)))) (λ k. antisym k h) (lt_or_ge b a))
      (lt_or_ge a b)

  -- a label strictly between those of two neighbouring days is on no day
  pub between_nowhere : {d : ℤ} {l : Label} → f (d -ℤ pos 1) ≺ l → l ≺ f d → ¬ Borne f l
  between_nowhere {d} h k (n, e) =
      none_between (up_back (subst (λ (m : Label). f (d -ℤ pos 1) ≺ m) (sym e) h)) (up_back (subst (λ (m : Label). m ≺ f d) (sym e) k))

  -- a later day is of no earlier year
  pub no_earlier_year : {a b : ℤ} → a ≤ℤ b → (f a).year ≤ℤ (f b).year
  no_earlier_year {a} {b} h = ⊎_elim (λ k. ≺-year (up a b k)) (λ k. eq_le (ap (λ (z : ℤ). (f z).year) (antisym h k))) (lt_or_ge a b)

  -- between two days of a year every day is of that year, and so of a month
  between_years : {a d b : ℤ} {y : ℤ} → a ≤ℤ d → d ≤ℤ b → OfYear y (f a) → OfYear y (f b) → OfYear y (f d)
  between_years {a} {d} {b} h k p q = antisym (le_trans (no_earlier_year k) (eq_le q)) (le_trans (eq_le (sym p)) (no_earlier_year h))

  between_months : {a d b : ℤ} {y : ℤ} {m : ℕ} → a ≤ℤ d → d ≤ℤ b → OfMonth y m (f a) → OfMonth y m (f b) → OfMonth y m (f d)
  between_months {a} {d} {b} {y} {m} h k p q =
      let e : OfYear y (f d) = between_years h k p.0 q.0 in
      (e, omega (arith, no_later h (p.0 ∙ sym e), no_later k (e ∙ sym q.0), p.1, q.1))
    where
      no_later : {a b : ℤ} → a ≤ℤ b → (f a).year ≡ (f b).year → (f a).month ≤ (f b).month
      no_later {a} {b} h e = ⊎_elim (λ k. ≺-month (up a b k) e) (λ k. subst (λ (z : ℤ). (f a).month ≤ (f z).month) (antisym h k) (omega arith)) (lt_or_ge a b)

pub year_run : {f : ℤ → Label} → Rises f → (y : ℤ) → Run (λ d. OfYear y (f d))
year_run up y a d b = between_years up

pub month_run : {f : ℤ → Label} → Rises f → (y : ℤ) (m : ℕ) → Run (λ d. OfMonth y m (f d))
month_run up y m a d b = between_months up

module _ {P : ℤ → Type 0} where
  -- a day has one place
  pub place_one : {n : ℤ} {k l : ℕ} → Place P n k → Place P n l → k ≡ l
  place_one {n} {k} {l} p q = ⊎_elim (λ h. absurd (unbias p q h)) (λ h. ⊎_elim (λ i. absurd (unbias q p i)) (λ i. omega arith) (N.lt_or_ge l k)) (N.lt_or_ge k l)
    where
      unbias : {k l : ℕ} → Place P n k → Place P n l → k < l → ⊥
      unbias {k} p q h = p.none_before (n -ℤ pos k) (≤ℤ_refl (n -ℤ pos k)) (q.counted k h)

  pub here : {n : ℤ} {k : ℕ} → Place P n k → 1 ≤ k → P n
  here {n} p h = subst P (+ℤ_idr n) (p.counted 0 (omega arith))

  -- the days with P have one number
  pub days_one : {k l : ℕ} → Days P k → Days P l → k ≡ l
  days_one {k} {l} p q = ⊎_elim (λ h. ⊎_elim (both h) (λ i. absurd (nought q p i h)) (N.lt_or_ge 0 l))
      (λ h. ⊎_elim (λ i. absurd (nought p q h i)) (λ i. omega arith) (N.lt_or_ge 0 l)) (N.lt_or_ge 0 k)
    where
      no_later : {k l : ℕ} (p : Days P k) (q : Days P l) → 0 < k → p.last ≤ℤ q.last
      no_later p q h = ⊎_elim (λ g. absurd (q.none_after p.last g (here p.place h))) (λ g. g) (lt_or_ge q.last p.last)

      nought : {k l : ℕ} → Days P k → Days P l → k ≤ 0 → 0 < l → ⊥
      nought {k} p q h i = ⊎_elim (λ g. p.none_after q.last g (here q.place i))
          (λ g. p.place.none_before q.last (subst (λ (z : ℤ). q.last ≤ℤ z) (sym (ap (λ (j : ℕ). p.last -ℤ pos j) (zero_is k h) ∙ +ℤ_idr p.last)) g) (here q.place i))
          (lt_or_ge p.last q.last)
        where
          zero_is : (k : ℕ) → k ≤ 0 → k ≡ 0
          zero_is k h = omega arith

      both : 0 < k → 0 < l → k ≡ l
      both h i = place_one p.place (subst (λ (z : ℤ). Place P z l) (antisym (no_later q p i) (no_later p q h)) q.place)

  -- one day has the k-th place, and k is from 1 to the number of days
  some : {n : ℤ} {k : ℕ} → P n → Place P n k → 1 ≤ k
  some {n} {k} p q = ⊎_elim (λ h. h) (λ h. absurd (q.none_before n (eq_le (sym (ap (λ (j : ℕ). n -ℤ pos j) (zero_is k h) ∙ +ℤ_idr n))) p)) (N.lt_or_ge 0 k)
    where
      zero_is : (k : ℕ) → k ≤ 0 → k ≡ 0
      zero_is k h = omega arith

  pub nth_one : {n m : ℤ} {k : ℕ} → P n → Place P n k → P m → Place P m k → n ≡ m
  nth_one {n} {m} {k} p q p' q' = ⊎_elim (λ h. absurd (never p q q' h)) (λ h. ⊎_elim (λ i. absurd (never p' q' q i)) (λ i. antisym i h) (lt_or_ge m n)) (lt_or_ge n m)
    where
      never : {n m : ℤ} {k : ℕ} → P n → Place P n k → Place P m k → n <ℤ m → ⊥
      never {k = zero} p q q' h = absurd (nought (some p q))
        where
          nought : 1 ≤ zero → ⊥
          nought h = omega arith
      never {n} {m} {k = suc k} p q q' h = q'.none_before (n -ℤ pos k) (back_suc n m k h) (q.counted k (omega arith))

  pub nth_within : {n : ℤ} {k t : ℕ} → Days P t → P n → Place P n k → (1 ≤ k) × (k ≤ t)
  nth_within {n} {k} {t} d p q = (
    some p q,
    ⊎_elim
        (λ h. absurd (d.place.none_before (n -ℤ pos t) (back_mono t (⊎_elim (λ g. absurd (d.none_after n g p)) (λ g. g) (lt_or_ge d.last n))) (q.counted t h)))
        (λ h. h) (N.lt_or_ge t k),
  )
