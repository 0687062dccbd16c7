-- Two results that the promise allows are equal: next to a run of the month no day is of the month, and so two runs that share a day are one.
-- Assumes nothing.
use Rattle.std.specs.Prelude.{◌≡◌, refl, ℕ, ◌+◌, ◌-◌, ◌<◌, ◌≤◌, ℤ, Ok}
use Rattle.std.proofs.Common.{sym, ◌∙◌, ap, ap₂, inl, inr, ⊎_elim, arith}
use Rattle.whole.specs.Tests.{lt_or_ge}
use Rattle.days.specs.DayByDay.{Label, label, Borne}
use Rattle.calendar.specs.declared.Calendar.{Calendar}
use Rattle.calendar.specs.Calendars.{labels}
use Rattle.calendar.specs.RowLaws as R
use Rattle.calendar.specs.RowLaws.{unless_one}
use Rattle.monthruns.specs.declared.Run.{Run}
use Rattle.monthruns.specs.declared.Runs.{Runs}
use Rattle.monthruns.specs.declared.Runs.TheVariants.{Nothing, One, Two}
use Rattle.monthruns.specs.Promise.{InRun, HasRuns, AreRuns, are_runs, RunsOf}

-- a run of numbers with P, with none next to it
record Whole (P : ℕ → Type 0) (a : Run) : Type 0 where
  some : a.first ≤ a.last
  inside : (d : ℕ) → InRun a d → P d
  none_before : (d : ℕ) → d + 1 ≡ a.first → ¬ P d
  none_after : ¬ P (a.last + 1)

module _ {P : ℕ → Type 0} {a b : Run} (p : Whole P a) (q : Whole P b) (d : ℕ) (h : InRun a d) (k : InRun b d) where
  begins : b.first ≤ a.first
  begins = ⊎_elim (λ g. absurd (q.none_before (b.first - 1) (omega arith) (p.inside (b.first - 1) (omega arith, omega arith)))) (λ g. g) (lt_or_ge a.first b.first)

  ends : a.last ≤ b.last
  ends = ⊎_elim (λ g. absurd (q.none_after (p.inside (b.last + 1) (omega arith, omega arith)))) (λ g. g) (lt_or_ge b.last a.last)

-- two of them that share a number are one
abbrev run : ℕ → ℕ → Run
run i j = record { first = i; last = j }

share : {P : ℕ → Type 0} {a b : Run} → Whole P a → Whole P b → (d : ℕ) → InRun a d → InRun b d → a ≡ b
share {a = a} {b} p q d h k = ap₂ run (same (begins q p d k h) (begins p q d h k)) (same (ends p q d h k) (ends q p d k h))
  where
    same : {i j : ℕ} → i ≤ j → j ≤ i → i ≡ j
    same g l = omega arith

-- no run is another one that begins past its end
not_one : {a b : Run} → b.first ≤ b.last → a.last + 1 < b.first → a ≡ b → ⊥
not_one {a} {b} h g e = let i : a.last ≡ b.last = ap (λ (a : Run). a.last) e in omega arith

-- the first number of a run is in it, and so has P
module _ {P : ℕ → Type 0} {a : Run} (w : Whole P a) where
  starts : InRun a a.first
  starts = (omega arith, w.some)

  has_start : P a.first
  has_start = w.inside a.first starts

-- d is a day of the month
abbrev Day : (ℤ → Label) → ℤ → ℕ → ℕ → Type 0
Day f y m d = Borne f (label y m d)

module _ {f : ℤ → Label} {y : ℤ} {m : ℕ} where
  only : {a : Run} → HasRuns f y m (One a) → Whole (Day f y m) a
  only {a} h = record {
    some = h.apart;
    inside = h.borne;
    none_before = λ d e b. let (i, j) = h.in_runs d b in omega arith;
    none_after = λ b. let (i, j) = h.in_runs (a.last + 1) b in omega arith;
  }

  first : {a b : Run} → HasRuns f y m (Two a b) → Whole (Day f y m) a
  first {a} {b} h =
      let (u, v, w) = h.apart in
      record {
        some = u;
        inside = λ d i. h.borne d (inl i);
        none_before = λ d e q. ⊎_elim (λ (i, j). omega arith) (λ (i, j). omega arith) (h.in_runs d q);
        none_after = λ q. ⊎_elim (λ (i, j). omega arith) (λ (i, j). omega arith) (h.in_runs (a.last + 1) q);
      }

  second : {a b : Run} → HasRuns f y m (Two a b) → Whole (Day f y m) b
  second {a} {b} h =
      let (u, v, w) = h.apart in
      record {
        some = v;
        inside = λ d i. h.borne d (inr i);
        none_before = λ d e q. ⊎_elim (λ (i, j). omega arith) (λ (i, j). omega arith) (h.in_runs d q);
        none_after = λ q. ⊎_elim (λ (i, j). omega arith) (λ (i, j). omega arith) (h.in_runs (b.last + 1) q);
      }

  -- one run is not two
  one_not_two : {a b e : Run} → HasRuns f y m (One a) → HasRuns f y m (Two b e) → ⊥
  one_not_two {a} {b} {e} h k = not_one k.apart.1 k.apart.2 (sym (met (first k)) ∙ met (second k))
    where
      met : {x : Run} → Whole (Day f y m) x → a ≡ x
      met {x} w = share (only h) w x.first (h.in_runs x.first (has_start w)) (starts w)

  -- two are the same two, in the same order
  module _ {a b u v : Run} (h : HasRuns f y m (Two a b)) (k : HasRuns f y m (Two u v)) where
    first_same : a ≡ u
    first_same = ⊎_elim (λ i. share (first h) (first k) a.first (starts (first h)) i) (λ i. absurd (crossed i)) (k.in_runs a.first (has_start (first h)))
      where
        crossed : InRun v a.first → ⊥
        crossed (i, j) = ⊎_elim (λ (l, g). omega (arith, k.apart)) (λ (l, g). omega (arith, h.apart, k.apart)) (h.in_runs u.first (has_start (first k)))

    second_same : b ≡ v
    second_same = ⊎_elim (λ i. absurd (not_one h.apart.1 h.apart.2 (first_same ∙ sym (share (second h) (first k) b.first (starts (second h)) i))))
        (λ i. share (second h) (second k) b.first (starts (second h)) i) (k.in_runs b.first (has_start (second h)))

  same_runs : (r s : Runs) → HasRuns f y m r → HasRuns f y m s → r ≡ s
  same_runs Nothing Nothing h k = refl
  same_runs Nothing (One b) h k = absurd (h.in_runs _ (has_start (only k)))
  same_runs Nothing (Two u v) h k = absurd (h.in_runs _ (has_start (first k)))
  same_runs (One a) Nothing h k = absurd (k.in_runs _ (has_start (only h)))
  same_runs (One a) (One b) h k = ap One (share (only h) (only k) a.first (starts (only h)) (k.in_runs a.first (has_start (only h))))
  same_runs (One a) (Two u v) h k = absurd (one_not_two h k)
  same_runs (Two a b) Nothing h k = absurd (k.in_runs _ (has_start (first h)))
  same_runs (Two a b) (One u) h k = absurd (one_not_two k h)
  same_runs (Two a b) (Two u v) h k = ap₂ Two (first_same h k) (second_same h k)

  pub has_runs_one : {r s : Runs} → HasRuns f y m r → HasRuns f y m s → r ≡ s
  has_runs_one {r} {s} h k = same_runs r s h k

are_runs_one : (f : ℤ → Label) (y : ℤ) (m : ℕ) → R.One (AreRuns f y m)
are_runs_one f y m a b (are_runs h) (are_runs k) = ap Ok (has_runs_one h k)

pub runs_of_one : (c : Calendar) (y : ℤ) (m : ℕ) → R.One (RunsOf c y m)
runs_of_one c y m = unless_one (λ a. unless_one (λ v. are_runs_one (labels c) y m))
