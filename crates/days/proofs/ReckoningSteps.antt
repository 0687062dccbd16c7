-- One day on and one day back: the cases of each, that they undo one another on a label that names a day, and that the labels of a
-- reckoning go on by `next_label` at every whole number. All for any leap rule.
-- Assumes nothing.
use Rattle.std.specs.Prelude.{◌≡◌, Bool, true, false, T, leb, ℤ, negsuc, neg_ℤ, ◌+ℤ◌, ◌-ℤ◌}
use Rattle.std.proofs.Math.Path.{refl, sym, ap}
use Rattle.std.proofs.Common.{◌∙◌, subst, ⊎_elim, arith, add-zero, add-suc, leb→le}
use Prim.Native.Nat.{ℕ, zero, suc, ◌+◌, ◌-◌, ◌<◌, ◌≤◌}
use borrow.Author.Tests.{lt-ltb, le-ltb}
use Rattle.std.proofs.Math.IntN.{pos, suc_ℤ, pred_ℤ, suc-pred, pred-suc, suc_ℤ-+ℤ, +ℤ-suc_ℤ, +ℤ_one, +ℤ_invr, +ℤ_idr}
use Rattle.days.specs.DayByDay.{Label, label, LeapRule, month_length, next_label, prev_label, stepping, Reckoning, label_of}
use Rattle.whole.specs.Tests.{lt_or_ge, all, all_at}
pub use Rattle.days.specs.ReckoningSteps.{Valid}
unfoldable pub use Rattle.days.specs.ReckoningSteps.{after}

-- a test that the length of each month passes
month_test_lem : (f : ℕ → Bool) → ((b : Bool) → T (all (λ i. f (month_length b (suc i))) 12)) → (b : Bool) (m : ℕ) → 1 ≤ m → m ≤ 12 → T (f (month_length b m))
month_test_lem f t b m h k = subst (λ (i : ℕ). T (f (month_length b i))) (back m h) (all_at (λ i. f (month_length b (suc i))) 12 (t b) (m - 1) (small m h k))
  where
    back : (m : ℕ) → 1 ≤ m → suc (m - 1) ≡ m
    back m h = omega arith

    small : (m : ℕ) → 1 ≤ m → m ≤ 12 → m - 1 < 12
    small m h k = omega arith

-- a month has a day, and no more than 31
pub month_some : (b : Bool) (m : ℕ) → 1 ≤ m → m ≤ 12 → 1 ≤ month_length b m
unfolding month_length
month_some b m h k = leb→le 1 (month_length b m) (month_test_lem (leb 1) (elim [ true ↦ tt | false ↦ tt ]) b m h k)

pub month_least : (b : Bool) (m : ℕ) → 1 ≤ m → m ≤ 12 → 28 ≤ month_length b m
unfolding month_length
month_least b m h k = leb→le 28 (month_length b m) (month_test_lem (leb 28) (elim [ true ↦ tt | false ↦ tt ]) b m h k)

pub month_most : (b : Bool) (m : ℕ) → 1 ≤ m → m ≤ 12 → month_length b m ≤ 31
unfolding month_length
month_most b m h k = leb→le (month_length b m) 31 (month_test_lem (λ n. leb n 31) (elim [ true ↦ tt | false ↦ tt ]) b m h k)

pub december : (b : Bool) → month_length b 12 ≡ 31
unfolding month_length
december b = refl

module _ (leap : LeapRule) (l : Label) where
  -- the cases of a step
  pub next_day : l.day < month_length (leap l.year) l.month → next_label leap l ≡ label l.year l.month (suc l.day)
  unfolding next_label
  next_day h = simp (lt-ltb _ _ h)

  pub next_month_lem : month_length (leap l.year) l.month ≤ l.day → l.month < 12 → next_label leap l ≡ label l.year (suc l.month) 1
  unfolding next_label
  next_month_lem h k = simp (le-ltb _ _ h, lt-ltb _ _ k)

  pub next_year : month_length (leap l.year) l.month ≤ l.day → 12 ≤ l.month → next_label leap l ≡ label (suc_ℤ l.year) 1 1
  unfolding next_label
  next_year h k = simp (le-ltb _ _ h, le-ltb _ _ k)

  pub prev_day : 1 < l.day → prev_label leap l ≡ label l.year l.month (l.day - 1)
  unfolding prev_label
  prev_day h = simp (lt-ltb _ _ h)

  pub prev_month : l.day ≤ 1 → 1 < l.month → prev_label leap l ≡ label l.year (l.month - 1) (month_length (leap l.year) (l.month - 1))
  unfolding prev_label
  prev_month h k = simp (le-ltb _ _ h, lt-ltb _ _ k)

  pub prev_year : l.day ≤ 1 → l.month ≤ 1 → prev_label leap l ≡ label (pred_ℤ l.year) 12 31
  unfolding prev_label
  prev_year h k = simp (le-ltb _ _ h, le-ltb _ _ k)

module _ (leap : LeapRule) (l : Label) (v : Valid leap l) where
  -- a step from a label that names a day ends at one
  pub next_valid : Valid leap (next_label leap l)
  next_valid = ⊎_elim
      (λ h. rw (next_day leap l h) (record { month_from = v.month_from; month_to = v.month_to; day_from = omega arith; day_to = h }))
      (λ h. ⊎_elim
      (λ k. rw (next_month_lem leap l h k) (record { month_from = omega arith; month_to = k; day_from = omega arith; day_to = month_some (leap l.year) (suc l.month) (omega arith) k }))
      (λ k. rw (next_year leap l h k) (record { month_from = omega arith; month_to = omega arith; day_from = omega arith; day_to = month_some (leap (suc_ℤ l.year)) 1 (omega arith) (omega arith) }))
      (lt_or_ge l.month 12))
      (lt_or_ge l.day (month_length (leap l.year) l.month))

  pub prev_valid : Valid leap (prev_label leap l)
  prev_valid = ⊎_elim
      (λ h. rw (prev_day leap l h) (record { month_from = v.month_from; month_to = v.month_to; day_from = omega arith; day_to = omega (arith, v.day_to) }))
      (λ h. ⊎_elim
      (λ k. rw (prev_month leap l h k) (record { month_from = omega arith; month_to = omega arith; day_from = month_some (leap l.year) (l.month - 1) (omega arith) (omega arith); day_to = omega arith }))
      (λ k. rw (prev_year leap l h k) (record { month_from = omega arith; month_to = omega arith; day_from = omega arith; day_to = omega (arith, december (leap (pred_ℤ l.year))) }))
      (lt_or_ge 1 l.month))
      (lt_or_ge 1 l.day)

  -- they undo one another
  pub next_prev : next_label leap (prev_label leap l) ≡ l
  next_prev = ⊎_elim
      (λ h. ap (next_label leap) (prev_day leap l h)
      ∙ next_day leap (label l.year l.month (l.day - 1)) (omega (arith, v.day_to))
      ∙ ap (label l.year l.month) (omega arith))
      (λ h. ⊎_elim
      (λ k. ap (next_label leap) (prev_month leap l h k)
      ∙ next_month_lem leap (label l.year (l.month - 1) (month_length (leap l.year) (l.month - 1))) (omega arith) (omega arith)
      ∙ ap (λ (m : ℕ). label l.year m 1) (omega arith)
      ∙ ap (label l.year l.month) (omega arith))
      (λ k. ap (next_label leap) (prev_year leap l h k)
      ∙ next_year leap (label (pred_ℤ l.year) 12 31) (omega (arith, december (leap (pred_ℤ l.year)))) (omega arith)
      ∙ ap (λ (y : ℤ). label y 1 1) (suc-pred l.year)
      ∙ ap (λ (m : ℕ). label l.year m 1) (omega arith)
      ∙ ap (label l.year l.month) (omega arith))
      (lt_or_ge 1 l.month))
      (lt_or_ge 1 l.day)

  pub prev_next : prev_label leap (next_label leap l) ≡ l
  prev_next = ⊎_elim
      (λ h. ap (prev_label leap) (next_day leap l h)
      ∙ prev_day leap (label l.year l.month (suc l.day)) (omega arith)
      ∙ ap (label l.year l.month) (omega arith))
      (λ h. ⊎_elim
      (λ k. ap (prev_label leap) (next_month_lem leap l h k)
      ∙ prev_month leap (label l.year (suc l.month) 1) (omega arith) (omega arith)
      ∙ ap (λ (m : ℕ). label l.year m (month_length (leap l.year) m)) (unbias l.month)
      ∙ ap (label l.year l.month) (omega (arith, v.day_to)))
      (λ k. ap (prev_label leap) (next_year leap l h k)
      ∙ prev_year leap (label (suc_ℤ l.year) 1 1) (omega arith) (omega arith)
      ∙ ap (λ (y : ℤ). label y 12 31) (pred-suc l.year)
      ∙ ap (λ (d : ℕ). label l.year 12 d) (sym (december (leap l.year)))
      ∙ ap (λ (m : ℕ). label l.year m (month_length (leap l.year) m)) (last k)
      ∙ ap (label l.year l.month) (omega (arith, v.day_to)))
      (lt_or_ge l.month 12))
      (lt_or_ge l.day (month_length (leap l.year) l.month))
    where
      unbias : (m : ℕ) → suc m - 1 ≡ m
      unbias m = omega arith

      last : 12 ≤ l.month → 12 ≡ l.month
      last k = omega arith

module _ (leap : LeapRule) where
  -- which is so many single steps
  pub after_stepping : (k : ℕ) (l : Label) → after leap k l ≡ stepping (next_label leap) (prev_label leap) l (pos k)
  unfolding after stepping
  after_stepping zero l = refl
  after_stepping (suc k) l = ap (next_label leap) (after_stepping k l)

  -- j days on from k days on
  pub after_sum : (k j : ℕ) (l : Label) → after leap (k + j) l ≡ after leap j (after leap k l)
  unfolding after
  after_sum k zero l = ap (λ (n : ℕ). after leap n l) (add-zero k)
  after_sum k (suc j) l = ap (λ (n : ℕ). after leap n l) (add-suc k j) ∙ ap (next_label leap) (after_sum k j l)

  pub after_valid : (k : ℕ) (l : Label) → Valid leap l → Valid leap (after leap k l)
  unfolding after
  after_valid zero l v = v
  after_valid (suc k) l v = next_valid leap (after leap k l) (after_valid k l v)

  pub next_injective : (l m : Label) → Valid leap l → Valid leap m → next_label leap l ≡ next_label leap m → l ≡ m
  next_injective l m v w e = sym (prev_next leap l v) ∙ ap (prev_label leap) e ∙ prev_next leap m w

  pub after_injective : (k : ℕ) (l m : Label) → Valid leap l → Valid leap m → after leap k l ≡ after leap k m → l ≡ m
  unfolding after
  after_injective zero l m v w e = e
  after_injective (suc k) l m v w e = after_injective k l m v w
      (next_injective (after leap k l) (after leap k m) (after_valid k l v) (after_valid k m w) e)

-- ---- single steps in both directions, of anything
module _ {A : Type 0} {next prev : A → A} (Good : A → Type 0) (good_next : (a : A) → Good a → Good (next a)) (good_prev : (a : A) → Good a → Good (prev a))
    (undone : (a : A) → Good a → next (prev a) ≡ a) where
  pub stepping_good : (a : A) → Good a → (n : ℤ) → Good (stepping next prev a n)
  unfolding stepping
  stepping_good a g (pos zero) = g
  stepping_good a g (pos (suc n)) = good_next (stepping next prev a (pos n)) (stepping_good a g (pos n))
  stepping_good a g (negsuc zero) = good_prev a g
  stepping_good a g (negsuc (suc n)) = good_prev (stepping next prev a (negsuc n)) (stepping_good a g (negsuc n))

  pub stepping_suc : (a : A) → Good a → (n : ℤ) → stepping next prev a (suc_ℤ n) ≡ next (stepping next prev a n)
  unfolding stepping
  stepping_suc a g (pos n) = refl
  stepping_suc a g (negsuc zero) = sym (undone a g)
  stepping_suc a g (negsuc (suc n)) = sym (undone (stepping next prev a (negsuc n)) (stepping_good a g (negsuc n)))

-- ---- a reckoning whose known label names a day
module _ (c : Reckoning) (v : Valid c.leap c.anchor_label) where
  pub label_valid : (n : ℤ) → Valid c.leap (label_of c n)
  unfolding label_of
  label_valid n = stepping_good (Valid c.leap) (next_valid c.leap) (prev_valid c.leap) (next_prev c.leap) c.anchor_label v (n -ℤ c.anchor)

  -- the known day has the known label, and every day's label is the next one of the day before
  pub label_anchor : label_of c c.anchor ≡ c.anchor_label
  unfolding label_of stepping
  label_anchor = ap (stepping (next_label c.leap) (prev_label c.leap) c.anchor_label) (+ℤ_invr c.anchor)

  pub label_suc : (n : ℤ) → label_of c (suc_ℤ n) ≡ next_label c.leap (label_of c n)
  unfolding label_of
  label_suc n = ap (stepping (next_label c.leap) (prev_label c.leap) c.anchor_label) (suc_ℤ-+ℤ n (neg_ℤ c.anchor))
      ∙ stepping_suc (Valid c.leap) (next_valid c.leap) (prev_valid c.leap) (next_prev c.leap) c.anchor_label v (n -ℤ c.anchor)

  pub label_next : (n : ℤ) → label_of c (n +ℤ pos 1) ≡ next_label c.leap (label_of c n)
  label_next n = ap (label_of c) (+ℤ_one n) ∙ label_suc n

  pub label_after : (n : ℤ) (k : ℕ) → label_of c (n +ℤ pos k) ≡ after c.leap k (label_of c n)
  unfolding after
  label_after n zero = ap (label_of c) (+ℤ_idr n)
  label_after n (suc k) = ap (label_of c) (+ℤ-suc_ℤ n (pos k)) ∙ label_suc (n +ℤ pos k) ∙ ap (next_label c.leap) (label_after n k)
