-- A year or a month of any rising labelling is a span of labels, and so one run of days: from the first day whose label is not before the
-- span's beginning, up to the first day whose label is not before its end. Days are biased as naturals with a bias, so that places and
-- numbers of days are differences of naturals.
-- Assumes nothing.
use Rattle.std.specs.Prelude.{◌≡◌, cond, ℕ, suc, ◌+◌, ◌-◌, ◌<◌, ◌≤◌, ltb, ℤ, ◌<ℤ◌, ◌≤ℤ◌}
use Rattle.std.proofs.Math.IntN.{suc_ℤ}
use Rattle.whole.specs.Promise.{unbias}
use Rattle.days.specs.DayByDay.{Label, label, ◌≺◌, Place, Days}

-- a month 1 to 12, and a day from 1: what the labels of every calendar are
abbrev pub Proper : Label → Type 0
Proper n = (1 ≤ n.month) × (n.month ≤ 12) × (1 ≤ n.day)

-- the proper labels with P are those from l on and before m
pub record Span (P : Label → Type 0) (l m : Label) : Type 0 where
  pub rising : l ≺ m
  pub inside : (n : Label) → Proper n → P n → (¬ (n ≺ l)) × (n ≺ m)
  pub only : (n : Label) → Proper n → ¬ (n ≺ l) → n ≺ m → P n

-- the first of the next month
abbrev pub next_month : ℤ → ℕ → Label
next_month y m = cond (ltb m 12) (label y (suc m) 1) (label (suc_ℤ y) 1 1)

-- a is the first day whose label is not before l
pub record First (f : ℤ → Label) (l : Label) (a : ℤ) : Type 0 where
  pub earlier : (n : ℤ) → n <ℤ a → f n ≺ l
  pub not_earlier : (n : ℤ) → a ≤ℤ n → ¬ (f n ≺ l)

-- the days with P are those from a on and before b, so each has its place among them, and they are b - a
pub record Stretch (f : ℤ → Label) (P : Label → Type 0) (bias a b : ℕ) : Type 0 where
  pub ordered : a ≤ b
  pub inside : (k : ℕ) → a ≤ k → k < b → P (f (unbias bias k))
  pub here : (k : ℕ) → P (f (unbias bias k)) → (a ≤ k) × (k < b) × Place (λ d. P (f d)) (unbias bias k) (k + 1 - a)
  pub days : Days (λ d. P (f d)) (b - a)
  pub only : (n : ℤ) → P (f n) → (k : ℕ) × (n ≡ unbias bias k) × (a ≤ k) × (k < b)
