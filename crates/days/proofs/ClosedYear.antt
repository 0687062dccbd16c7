-- A year's days: from 1 January on, the day of ordinal o (from 1) has the month and the day that going through the months finds,
-- and the day after the last is 1 January of the next year. For any leap rule.
-- Assumes nothing.
use Rattle.std.specs.Prelude.{◌≡◌, refl, Bool, true, false, ◌&&◌, ◌||◌, ◌⊎◌, leb, ltb, ℤ}
use Rattle.std.proofs.Math.Path.{sym, ap}
use Rattle.std.proofs.Common.{◌∙◌, inl, inr, arith}
use Rattle.std.proofs.Math.Logic.{⊎_elim}
use Prim.Native.Nat.{ℕ, zero, suc, ◌-◌, ◌<◌, ◌≤◌}
use Rattle.std.proofs.Math.Dec.{T, eqb, leb→le, ltb→lt, eqb→eq}
use Rattle.std.proofs.Math.IntN.{suc_ℤ}
use Rattle.days.specs.DayByDay.{label, LeapRule, month_length, next_label}
use Rattle.whole.specs.Tests.{all_at, and_left, and_right}
use Rattle.days.proofs.ReckoningSteps.{next_day, next_month_lem, next_year, after, december}
pub use Rattle.days.specs.ClosedYear.{year_length, DayOfMonth, day_of_year}
unfoldable pub use Rattle.days.specs.ClosedYear.{through, day_of_month}

-- ---- one day on within the year, computed at each of its days
-- from (m, d) to (m', d'), in a month of the length n: the next day of the month, or the first of the next month
stays_test : ℕ → ℕ → ℕ → ℕ → ℕ → Bool
stays_test n m d m' d' = ltb d n && (eqb m' m && eqb d' (suc d))

turns_test : ℕ → ℕ → ℕ → ℕ → ℕ → Bool
turns_test n m d m' d' = leb n d && (ltb m 12 && (eqb m' (suc m) && eqb d' 1))

step_test : Bool → ℕ → Bool
step_test b o =
    let p : DayOfMonth = day_of_month b o in
    let q : DayOfMonth = day_of_month b (suc o) in
    let n : ℕ = month_length b p.month in
    stays_test n p.month p.day q.month q.day || turns_test n p.month p.day q.month q.day

step_test_lem : (b : Bool) (i : ℕ) → suc i < year_length b → T (step_test b (suc i))
unfolding step_test stays_test turns_test day_of_month through month_length
step_test_lem true i h = all_at (λ i. step_test true (suc i)) 365 tt i (omega arith)
step_test_lem false i h = all_at (λ i. step_test false (suc i)) 364 tt i (omega arith)

or_cases : (a b : Bool) → T (a || b) → T a ⊎ T b
or_cases true b t = inl tt
or_cases false b t = inr t

module _ (leap : LeapRule) (y : ℤ) (n m d m' d' : ℕ) (e : month_length (leap y) m ≡ n) where
  step_stays : T (stays_test n m d m' d') → next_label leap (label y m d) ≡ label y m' d'
  unfolding stays_test
  step_stays t =
      let s : T (eqb m' m && eqb d' (suc d)) = and_right (ltb d n) (eqb m' m && eqb d' (suc d)) t in
      let h : d < n = ltb→lt d n (and_left (ltb d n) (eqb m' m && eqb d' (suc d)) t) in
      let p : m' ≡ m = eqb→eq m' m (and_left (eqb m' m) (eqb d' (suc d)) s) in
      let q : d' ≡ suc d = eqb→eq d' (suc d) (and_right (eqb m' m) (eqb d' (suc d)) s) in
      next_day leap (label y m d) (omega arith) ∙ cc

  step_turns : T (turns_test n m d m' d') → next_label leap (label y m d) ≡ label y m' d'
  unfolding turns_test
  step_turns t =
      let r : T (ltb m 12 && (eqb m' (suc m) && eqb d' 1)) = and_right (leb n d) (ltb m 12 && (eqb m' (suc m) && eqb d' 1)) t in
      let s : T (eqb m' (suc m) && eqb d' 1) = and_right (ltb m 12) (eqb m' (suc m) && eqb d' 1) r in
      let h : n ≤ d = leb→le n d (and_left (leb n d) (ltb m 12 && (eqb m' (suc m) && eqb d' 1)) t) in
      let k : m < 12 = ltb→lt m 12 (and_left (ltb m 12) (eqb m' (suc m) && eqb d' 1) r) in
      let p : m' ≡ suc m = eqb→eq m' (suc m) (and_left (eqb m' (suc m)) (eqb d' 1) s) in
      let q : d' ≡ 1 = eqb→eq d' 1 (and_right (eqb m' (suc m)) (eqb d' 1) s) in
      next_month_lem leap (label y m d) (omega arith) k ∙ cc

pub year_first_lem : (b : Bool) (y : ℤ) → day_of_year b y 1 ≡ label y 1 1
unfolding day_of_month through
year_first_lem b y = refl

year_last : (b : Bool) (y : ℤ) → day_of_year b y (year_length b) ≡ label y 12 31
unfolding day_of_month through
year_last true y = refl
year_last false y = refl

pub year_some : (b : Bool) → 365 ≤ year_length b
year_some true = omega arith
year_some false = omega arith

pub year_most : (b : Bool) → year_length b ≤ 366
year_most true = omega arith
year_most false = omega arith

module _ (leap : LeapRule) (y : ℤ) (b : Bool) (e : leap y ≡ b) where
  pub in_year_next : (i : ℕ) → suc i < year_length b → next_label leap (day_of_year b y (suc i)) ≡ day_of_year b y (suc (suc i))
  unfolding step_test
  in_year_next i h =
      let p : DayOfMonth = day_of_month b (suc i) in
      let q : DayOfMonth = day_of_month b (suc (suc i)) in
      let n : ℕ = month_length b p.month in
      let l : month_length (leap y) p.month ≡ n = ap (λ (b : Bool). month_length b p.month) e in
      ⊎_elim (step_stays leap y n p.month p.day q.month q.day l) (step_turns leap y n p.month p.day q.month q.day l)
      (or_cases (stays_test n p.month p.day q.month q.day) (turns_test n p.month p.day q.month q.day) (step_test_lem b i h))

  -- i days after 1 January, in the year; and past its last day
  pub year_walk : (i : ℕ) → i < year_length b → after leap i (label y 1 1) ≡ day_of_year b y (suc i)
  unfolding after
  year_walk zero h = sym (year_first_lem b y)
  year_walk (suc i) h = ap (next_label leap) (year_walk i (omega arith)) ∙ in_year_next i h

  over_at : (n : ℕ) → suc n ≡ year_length b → after leap (suc n) (label y 1 1) ≡ label (suc_ℤ y) 1 1
  unfolding after
  over_at n q = ap (next_label leap) (year_walk n (omega arith) ∙ ap (day_of_year b y) q ∙ year_last b y)
      ∙ next_year leap (label y 12 31) (omega (arith, december (leap y))) (omega arith)

  pub year_over : after leap (year_length b) (label y 1 1) ≡ label (suc_ℤ y) 1 1
  year_over =
      let q : suc (year_length b - 1) ≡ year_length b = omega (arith, year_some b) in
      ap (λ (k : ℕ). after leap k (label y 1 1)) (sym q) ∙ over_at (year_length b - 1) q
