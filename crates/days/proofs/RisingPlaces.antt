-- The labels of a year are few. So every day of a timeline that rises has its ordinal and its day ordinal, and 400 days before it is an earlier year.
-- Assumes nothing.
use Rattle.std.specs.Prelude.{◌≡◌, ◌⊎◌, ℕ, zero, suc, ◌+◌, ◌*◌, ◌≤◌, ◌<◌, ℤ, negsuc, neg_ℤ, ◌+ℤ◌, ◌-ℤ◌, ◌<ℤ◌}
use Rattle.std.proofs.Math.Path.{refl}
use Rattle.std.proofs.Common.{sym, ◌∙◌, ap, subst, inl, inr, ⊎_elim, arith}
use Rattle.std.proofs.Math.IntN.{pos, pred_ℤ, +ℤ_idr, +ℤ-pred_ℤ, -ℤ_one}
use Rattle.std.specs.Int.Signed.{<ℤ_irrefl}
use Rattle.whole.specs.Integers.{lt_or_ge, lt_le, antisym, back_lt, back_le}
use Rattle.whole.specs.Tests as N
use Rattle.days.specs.DayByDay.{Label, ◌≺◌, by_year, by_month, by_day, Timeline, labels_in, Rising, Rises, OfMonth, Place, Ordinal, DayOrdinal}
use Rattle.days.proofs.RisingLabels.{Run, year_run, month_run, no_earlier_year}
use Rattle.days.proofs.RisingSpans.{Proper}
use Rattle.days.proofs.RisingTimelines.{rising_rises, timeline_proper, timeline_most}

-- ---- The labels of a year are few: an earlier one has less of 32 times the month and the day
height : Label → ℕ
height l = 32 * l.month + l.day

lower : {l m : Label} → l.day ≤ 31 → 1 ≤ m.day → l ≺ m → l.year ≡ m.year → height l < height m
unfolding height
lower {l} {m} h k (by_year g) e = absurd (<ℤ_irrefl (subst (λ (z : ℤ). z <ℤ m.year) e g))
lower h k (by_month f g) e = omega arith
lower h k (by_day f g i) e = omega arith

pub one_more : (n : ℤ) (k : ℕ) → n -ℤ pos (suc k) ≡ (n -ℤ pos k) -ℤ pos 1
one_more n k = ap (λ (z : ℤ). n +ℤ z) (down k) ∙ +ℤ-pred_ℤ n (neg_ℤ (pos k)) ∙ sym (-ℤ_one (n -ℤ pos k))
  where
    down : (k : ℕ) → negsuc k ≡ pred_ℤ (neg_ℤ (pos k))
    down zero = refl
    down (suc k) = refl

back_more : (n : ℤ) (k : ℕ) → (n -ℤ pos (suc k)) <ℤ (n -ℤ pos k)
back_more n k = subst (λ (z : ℤ). z <ℤ (n -ℤ pos k)) (sym (one_more n k)) (back_lt (n -ℤ pos k))

-- ---- Going back from day n, over days with P that are of its year, one comes to a day without P
module _ {f : ℤ → Label} (up : Rises f) (proper : (n : ℤ) → Proper (f n)) (most : (n : ℤ) → (f n).day ≤ 31) {P : ℤ → Type 0} (run : Run P) (decides : (n : ℤ) → P n ⊎ (¬ P n))
    (n : ℤ) (here : P n) (of_year_lem : (a : ℤ) → P a → (f a).year ≡ (f n).year) where
  few : (k : ℕ) → P (n -ℤ pos k) → height (f (n -ℤ pos k)) + k ≤ height (f n)
  few zero p = subst (λ (z : ℤ). height (f z) + 0 ≤ height (f n)) (sym (+ℤ_idr n)) (omega arith)
  few (suc k) p =
      let q : P (n -ℤ pos k) = run (n -ℤ pos (suc k)) (n -ℤ pos k) n (lt_le (back_more n k)) (back_le n k) p here in
      let u : f (n -ℤ pos (suc k)) ≺ f (n -ℤ pos k) = up (n -ℤ pos (suc k)) (n -ℤ pos k) (back_more n k) in
      omega (arith, few k q, lower (most (n -ℤ pos (suc k))) (proper (n -ℤ pos k)).2 u (of_year_lem (n -ℤ pos (suc k)) p ∙ sym (of_year_lem (n -ℤ pos k) q)))

  ends_at : (k : ℕ) → ((j : ℕ) → j < k → P (n -ℤ pos j)) → ¬ P (n -ℤ pos k) → Place P n k
  ends_at k all x = record { counted = all; none_before = λ d h p. x (run d (n -ℤ pos k) n h (back_le n k) p here) }

  search_back : (left k : ℕ) → height (f n) < k + left → ((j : ℕ) → j < k → P (n -ℤ pos j)) → (i : ℕ) × Place P n i
  search_back zero k h all = (k, ends_at k all (λ p. omega (arith, few k p)))
  search_back (suc left) k h all = ⊎_elim
      (λ p. search_back left (suc k) (omega arith) (λ j g. ⊎_elim (λ i. all j i) (λ i. subst (λ (l : ℕ). P (n -ℤ pos l)) (is j g i) p) (N.lt_or_ge j k)))
      (λ p. (k, ends_at k all p))
      (decides (n -ℤ pos k))
    where
      is : (j : ℕ) → j < suc k → k ≤ j → k ≡ j
      is j g i = omega arith

  has_place : (i : ℕ) × Place P n i
  has_place = search_back (suc (height (f n))) 0 (omega arith) (λ j h. absurd (nought j h))
    where
      nought : (j : ℕ) → j < 0 → ⊥
      nought j h = omega arith

-- ---- So in its year, and in its month
same_or_not : (a b : ℤ) → (a ≡ b) ⊎ (a ≡ b → ⊥)
same_or_not a b = ⊎_elim (λ h. inr (λ e. <ℤ_irrefl (subst (λ (z : ℤ). z <ℤ b) e h)))
    (λ h. ⊎_elim (λ k. inr (λ e. <ℤ_irrefl (subst (λ (z : ℤ). b <ℤ z) e k))) (λ k. inl (antisym k h)) (lt_or_ge b a)) (lt_or_ge a b)

-- the year falls, going back
module _ {f : ℤ → Label} (up : Rises f) (proper : (n : ℤ) → Proper (f n)) (most : (n : ℤ) → (f n).day ≤ 31) (n : ℤ) where
  not_of_year : (f (n -ℤ pos 400)).year ≡ (f n).year → ⊥
  unfolding height
  not_of_year e =
      let h : height (f (n -ℤ pos 400)) + 400 ≤ height (f n) =
      few up proper most {P = λ d. (f d).year ≡ (f n).year} (year_run up (f n).year) (λ d. same_or_not (f d).year (f n).year) n refl (λ a p. p) 400 e in
      omega (arith, h, (proper (n -ℤ pos 400)).0, (proper n).1, most n)

  pub year_falls : (f (n -ℤ pos 400)).year <ℤ (f n).year
  year_falls = ⊎_elim (λ h. h) (λ h. absurd (not_of_year (antisym (no_earlier_year up (back_le n 400)) h))) (lt_or_ge (f (n -ℤ pos 400)).year (f n).year)

module _ {t : Timeline} (r : Rising t) (n : ℤ) where
  of_year_or_not : (d : ℤ) → ((labels_in t d).year ≡ (labels_in t n).year) ⊎ ((labels_in t d).year ≡ (labels_in t n).year → ⊥)
  of_year_or_not d = same_or_not (labels_in t d).year (labels_in t n).year

  pub has_ordinal : (k : ℕ) × Ordinal (labels_in t) n k
  has_ordinal = has_place (rising_rises r) (timeline_proper t) (timeline_most t) (year_run (rising_rises r) (labels_in t n).year) of_year_or_not n refl (λ a p. p)

  pub has_day_ordinal : (k : ℕ) × DayOrdinal (labels_in t) n k
  has_day_ordinal = has_place (rising_rises r) (timeline_proper t) (timeline_most t) (month_run (rising_rises r) (labels_in t n).year (labels_in t n).month) of_month_or_not n (refl, refl) (λ a p. p.0)
    where
      of_month_or_not : (d : ℤ) → OfMonth (labels_in t n).year (labels_in t n).month (labels_in t d) ⊎ (¬ OfMonth (labels_in t n).year (labels_in t n).month (labels_in t d))
      of_month_or_not d = ⊎_elim (λ e. ⊎_elim (λ g. inl (e, g)) (λ g. inr (λ p. g p.1)) (N.eq_or_not (labels_in t d).month (labels_in t n).month)) (λ e. inr (λ p. e p.0)) (of_year_or_not d)
