-- A year or a month of any rising labelling is a span of labels, and so one run of days: from the first day whose label is not before the
-- span's beginning, up to the first day whose label is not before its end. Days are biased as naturals with a bias, so that places and
-- numbers of days are differences of naturals.
-- Assumes nothing.
use Rattle.std.specs.Prelude.{◌≡◌, refl, ℕ, suc, ◌+◌, ◌-◌, ◌<◌, ◌≤◌, ℤ, pos, ◌-ℤ◌, ◌<ℤ◌, ◌≤ℤ◌}
use Rattle.std.proofs.Common.{sym, ◌∙◌, subst, ⊎_elim, arith, lt-ltb, le-ltb}
use Rattle.std.proofs.Math.IntN.{suc_ℤ}
use Rattle.std.specs.Int.Signed.{<ℤ_irrefl, clash_ℤ}
use Rattle.whole.specs.Tests as N
use Rattle.whole.specs.Biased.{unbias_add, unbias_back, unbias_injective}
use Rattle.whole.specs.Promise.{unbias}
use Rattle.whole.specs.Integers.{lt_or_ge, antisym, eq_le, le_trans, lt_suc, lt_suc_le, steps, none_between, unbias_up, unbias_down, unbias_le}
use Rattle.days.specs.DayByDay.{Label, label, ◌≺◌, by_year, by_month, by_day, Rises, OfYear, OfMonth, Place}
use Rattle.days.proofs.LabelOrder.{≺-irrefl, ≺-trans}
use Rattle.days.proofs.RisingLabels.{no_later}
pub use Rattle.days.specs.RisingSpans.{Proper, Span, next_month, First, Stretch}

-- ---- Spans of labels

-- a year
pub year_span : (y : ℤ) → Span (OfYear y) (label y 1 1) (label (suc_ℤ y) 1 1)
year_span y = record {
  rising = by_year (lt_suc y);
  inside = λ n p e. (from n p e, by_year (subst (λ (z : ℤ). z <ℤ suc_ℤ y) (sym e) (lt_suc y)));
  only = λ n p h k. antisym (to n p k) (⊎_elim (λ g. absurd (h (by_year g))) (λ g. g) (lt_or_ge n.year y));
}
  where
    from : (n : Label) → Proper n → OfYear y n → ¬ (n ≺ label y 1 1)
    from n p e (by_year g) = <ℤ_irrefl (subst (λ (z : ℤ). z <ℤ y) e g)
    from n p e (by_month f g) = omega (arith, p.0)
    from n p e (by_day f i g) = omega (arith, p.2)

    none : (m : ℕ) → 1 ≤ m → m < 1 → ⊥
    none m h k = omega arith

    to : (n : Label) → Proper n → n ≺ label (suc_ℤ y) 1 1 → n.year ≤ℤ y
    to n p (by_year g) = lt_suc_le g
    to n p (by_month f g) = absurd (none n.month p.0 g)
    to n p (by_day f i g) = absurd (none n.day p.2 g)

-- a month
module _ (y : ℤ) (m : ℕ) where
  from_month : (n : Label) → Proper n → OfMonth y m n → ¬ (n ≺ label y m 1)
  from_month n p e (by_year g) = <ℤ_irrefl (subst (λ (z : ℤ). z <ℤ y) e.0 g)
  from_month n p e (by_month f g) = omega (arith, e.1)
  from_month n p e (by_day f i g) = omega (arith, p.2)

  -- of the same year, and no earlier month
  same_year : (n : Label) → Proper n → ¬ (n ≺ label y m 1) → n.year ≤ℤ y → (n.year ≡ y) × (m ≤ n.month)
  same_year n p h k =
      let e : n.year ≡ y = antisym k (⊎_elim (λ g. absurd (h (by_year g))) (λ g. g) (lt_or_ge n.year y)) in
      (e, ⊎_elim (λ g. absurd (h (by_month e g))) (λ g. g) (N.lt_or_ge n.month m))

  in_year : m < 12 → Span (OfMonth y m) (label y m 1) (label y (suc m) 1)
  in_year b = record {
    rising = by_month refl (omega arith);
    inside = λ n p e. (from_month n p e, by_month e.0 (omega (arith, e.1)));
    only = only;
  }
    where
      none : (d : ℕ) → 1 ≤ d → d < 1 → ⊥
      none d h k = omega arith

      only : (n : Label) → Proper n → ¬ (n ≺ label y m 1) → n ≺ label y (suc m) 1 → OfMonth y m n
      only n p h (by_year g) = absurd (h (by_year g))
      only n p h (by_month f g) = let (e, k) = same_year n p h (eq_le f) in (e, omega arith)
      only n p h (by_day f i g) = absurd (none n.day p.2 g)

  at_end : m ≡ 12 → Span (OfMonth y m) (label y m 1) (label (suc_ℤ y) 1 1)
  at_end b = record {
    rising = by_year (lt_suc y);
    inside = λ n p e. (from_month n p e, by_year (subst (λ (z : ℤ). z <ℤ suc_ℤ y) (sym e.0) (lt_suc y)));
    only = λ n p h k. let (e, g) = same_year n p h (eq_le ((year_span y).only n p (λ q. h (past q)) k)) in (e, omega (arith, p.1));
  }
    where
      past : {n : Label} → n ≺ label y 1 1 → n ≺ label y m 1
      past q = ≺-trans q (by_month refl (omega arith))

  pub month_span_lem : m ≤ 12 → Span (OfMonth y m) (label y m 1) (next_month y m)
  month_span_lem h = ⊎_elim (λ b. rw (lt-ltb m 12 b) (in_year b)) (λ b. rw (le-ltb m 12 b) (at_end (omega arith))) (N.lt_or_ge m 12)

-- ---- The first day of a span

-- of a labelling that rises it is enough to see that day and the day before it
pub first_by : {f : ℤ → Label} {l : Label} {a : ℤ} → Rises f → f (a -ℤ pos 1) ≺ l → ¬ (f a ≺ l) → First f l a
first_by {a = a} up h k = record {
  earlier = λ n g. no_later up (⊎_elim (λ u. absurd (none_between u g)) (λ u. u) (lt_or_ge (a -ℤ pos 1) n)) h;
  not_earlier = λ n g q. k (no_later up g q);
}

-- the day that bears l is that day
pub first_at : {f : ℤ → Label} {l : Label} {a : ℤ} → Rises f → f a ≡ l → First f l a
first_at {f} {l} {a} up e = record {
  earlier = λ n g. subst (λ (m : Label). f n ≺ m) e (up n a g);
  not_earlier = λ n g q. ≺-irrefl (subst (λ (m : Label). m ≺ l) e (no_later up g q));
}

-- ---- The days of a span, as naturals

-- a whole number from -bias on is biased as a natural
pub biased_from : (bias a : ℕ) (z : ℤ) → unbias bias a ≤ℤ z → (k : ℕ) × (z ≡ unbias bias k) × (a ≤ k)
biased_from bias a z h = ⊎_elim
    (λ k. let (i, e) = steps k in (a + suc i, e ∙ sym (unbias_add bias a (suc i)), omega arith))
    (λ k. (a, antisym k h, omega arith))
    (lt_or_ge (unbias bias a) z)

module _ {f : ℤ → Label} (up : Rises f) (good : (n : ℤ) → Proper (f n)) {P : Label → Type 0} {l m : Label} (span : Span P l m) (bias : ℕ) {a b : ℕ}
    (first : First f l (unbias bias a)) (past : First f m (unbias bias b)) where
  span_ordered : a ≤ b
  span_ordered = ⊎_elim (λ h. absurd (past.not_earlier (unbias bias b) (eq_le refl) (≺-trans (first.earlier (unbias bias b) (unbias_up bias h)) span.rising))) (λ h. h) (N.lt_or_ge b a)

  span_in : (k : ℕ) → a ≤ k → k < b → P (f (unbias bias k))
  span_in k h i = span.only (f (unbias bias k)) (good (unbias bias k)) (first.not_earlier (unbias bias k) (unbias_le bias a k h)) (past.earlier (unbias bias k) (unbias_up bias i))

  span_only : (n : ℤ) → P (f n) → (k : ℕ) × (n ≡ unbias bias k) × (a ≤ k) × (k < b)
  span_only n p =
      let (h, i) = span.inside (f n) (good n) p in
      let (k, e, u) = biased_from bias a n (⊎_elim (λ g. absurd (h (first.earlier n g))) (λ g. g) (lt_or_ge n (unbias bias a))) in
      (k, e, u, unbias_down bias (subst (λ (z : ℤ). z <ℤ unbias bias b) e (⊎_elim (λ g. g) (λ g. absurd (past.not_earlier n g i)) (lt_or_ge n (unbias bias b)))))

  module _ (some : 1 ≤ a) where
    -- the last of the days before e has the place e - a
    span_place : (e : ℕ) → a ≤ e → e ≤ b → Place (λ d. P (f d)) (unbias bias (e - 1)) (e - a)
    span_place e h i = record {
      counted = λ j g. subst (λ (z : ℤ). P (f z)) (sym (unbias_back bias (e - 1) j (omega arith))) (span_in (e - 1 - j) (omega arith) (omega arith));
      none_before = λ d g p.
          let (k, w, u, v) = span_only d p in
          clash_ℤ (subst (λ (z : ℤ). z <ℤ unbias bias a) (sym (unbias_back bias (e - 1) (e - a) (omega arith))) (unbias_up bias (last_before h)))
          (le_trans (unbias_le bias a k u) (subst (λ (z : ℤ). z ≤ℤ (unbias bias (e - 1) -ℤ pos (e - a))) w g));
    }
      where
        last_before : a ≤ e → e - 1 - (e - a) < a
        last_before h = omega arith

    pub stretch : Stretch f P bias a b
    stretch = record {
      ordered = span_ordered;
      inside = span_in;
      here = here;
      days = record {
        last = unbias bias (b - 1);
        place = span_place b span_ordered (omega arith);
        none_after = λ d g p.
            let (k, w, u, v) = span_only d p in
            clash_ℤ (subst (λ (z : ℤ). unbias bias (b - 1) <ℤ z) w g) (unbias_le bias k (b - 1) (omega arith));
      };
      only = span_only;
    }
      where
        back : (k : ℕ) → k + 1 - 1 ≡ k
        back k = omega arith

        here : (k : ℕ) → P (f (unbias bias k)) → (a ≤ k) × (k < b) × Place (λ d. P (f d)) (unbias bias k) (k + 1 - a)
        here k p =
            let (i, e, u, v) = span_only (unbias bias k) p in
            let w : k ≡ i = unbias_injective bias k i e in
            (omega arith, omega arith, subst (λ (n : ℕ). Place (λ d. P (f d)) (unbias bias n) (k + 1 - a)) (back k) (span_place (k + 1) (omega arith) (omega arith)))
