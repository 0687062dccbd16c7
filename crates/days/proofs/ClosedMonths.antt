-- The months of a year, one after the other: their lengths by cases, and the days before each of them.
-- Assumes nothing.
use Rattle.std.specs.Prelude.{◌≡◌, refl, Bool, true, false, cond, ◌∷◌, ℕ, zero, suc, ◌+◌, ◌-◌, ◌<◌, ◌≤◌}
use Rattle.std.proofs.Common.{sym, ◌∙◌, ap, inl, inr, ⊎_elim, zero-add, add_assoc, arith, lt-ltb, le-ltb}
use Rattle.std.proofs.Math.Numerals.{add-one}
use Rattle.whole.specs.Tests.{lt_or_ge}
use Rattle.std.proofs.Math.ListN.{get_or-eq_default}
use Rattle.days.specs.DayByDay.{month_lengths, month_length}
use Rattle.days.proofs.ClosedYear.{year_length, DayOfMonth, through, day_of_month}
pub use Rattle.days.specs.ClosedMonths.{Short, Before}
unfoldable pub use Rattle.days.specs.ClosedMonths.{rest, total}

-- what holds of each of the twelve holds of every month
pub twelve : (P : ℕ → Type 0) → P 1 → P 2 → P 3 → P 4 → P 5 → P 6 → P 7 → P 8 → P 9 → P 10 → P 11 → P 12 → (m : ℕ) → 1 ≤ m → m ≤ 12 → P m
twelve P a b c d e f g h i j k l m u v = by m u v
  where
    none : (m : ℕ) → suc (suc (suc (suc (suc (suc (suc (suc (suc (suc (suc (suc (suc m)))))))))))) ≤ 12 → ⊥
    none m v = omega arith

    nought : 1 ≤ zero → ⊥
    nought u = omega arith

    by : (m : ℕ) → 1 ≤ m → m ≤ 12 → P m
    by zero u v = absurd (nought u)
    by (suc zero) u v = a
    by (suc (suc zero)) u v = b
    by (suc (suc (suc zero))) u v = c
    by (suc (suc (suc (suc zero)))) u v = d
    by (suc (suc (suc (suc (suc zero))))) u v = e
    by (suc (suc (suc (suc (suc (suc zero)))))) u v = f
    by (suc (suc (suc (suc (suc (suc (suc zero))))))) u v = g
    by (suc (suc (suc (suc (suc (suc (suc (suc zero)))))))) u v = h
    by (suc (suc (suc (suc (suc (suc (suc (suc (suc zero))))))))) u v = i
    by (suc (suc (suc (suc (suc (suc (suc (suc (suc (suc zero)))))))))) u v = j
    by (suc (suc (suc (suc (suc (suc (suc (suc (suc (suc (suc zero))))))))))) u v = k
    by (suc (suc (suc (suc (suc (suc (suc (suc (suc (suc (suc (suc zero)))))))))))) u v = l
    by (suc (suc (suc (suc (suc (suc (suc (suc (suc (suc (suc (suc (suc m))))))))))))) u v = absurd (none m v)

pub long : (b : Bool) (m : ℕ) → 1 ≤ m → m ≤ 12 → (m ≡ 2 → ⊥) → (Short m → ⊥) → month_length b m ≡ 31
unfolding month_length
long b = twelve (λ m. (m ≡ 2 → ⊥) → (Short m → ⊥) → month_length b m ≡ 31)
    (λ p q. refl) (λ p q. absurd (p refl)) (λ p q. refl) (λ p q. absurd (q (inl refl))) (λ p q. refl) (λ p q. absurd (q (inr (inl refl))))
    (λ p q. refl) (λ p q. refl) (λ p q. absurd (q (inr (inr (inl refl))))) (λ p q. refl) (λ p q. absurd (q (inr (inr (inr refl))))) (λ p q. refl)

pub february : (b : Bool) (m : ℕ) → m ≡ 2 → month_length b m ≡ cond b 29 28
unfolding month_length
february b m e = ap (month_length b) e

pub short : (b : Bool) (m : ℕ) → Short m → month_length b m ≡ 30
unfolding month_length
short b m = ⊎_elim (ap (month_length b)) (⊎_elim (ap (month_length b)) (⊎_elim (ap (month_length b)) (ap (month_length b))))

-- what is no month has no day
pub no_month : (b : Bool) (m : ℕ) → ((1 ≤ m) × (m ≤ 12) → ⊥) → month_length b m ≡ 0
unfolding month_length
no_month b zero n = refl
no_month b (suc m) n = get_or-eq_default (month_lengths b) 0 {n = m} (past n)
  where
    past : ((1 ≤ suc m) × (suc m ≤ 12) → ⊥) → 12 ≤ m
    past n = ⊎_elim (λ h. absurd (n (omega arith, omega arith))) (λ h. h) (lt_or_ge m 12)

pub rest_first : (b : Bool) → through (rest b 1) 1 ≡ day_of_month b
unfolding rest day_of_month
rest_first b = refl

pub total_first : (b : Bool) → total (rest b 1) ≡ year_length b
unfolding rest total
total_first true = refl
total_first false = refl

rest_next : (b : Bool) (m : ℕ) → 1 ≤ m → m ≤ 12 → rest b m ≡ month_length b m ∷ rest b (m + 1)
unfolding rest month_length
rest_next b = twelve (λ m. rest b m ≡ month_length b m ∷ rest b (m + 1)) refl refl refl refl refl refl refl refl refl refl refl refl

last_total : (b : Bool) → total (rest b 13) ≡ 0
unfolding rest total
last_total b = refl

-- where the o-th day from the first of month m on falls
module _ (b : Bool) (m o : ℕ) (u : 1 ≤ m) (v : m ≤ 12) where
  pub on_here : o ≤ month_length b m → through (rest b m) m o ≡ record { month = m; day = o }
  unfolding through
  on_here h = rw (rest_next b m u v) (simp (le-ltb (month_length b m) o h))

  pub on_next : month_length b m < o → through (rest b m) m o ≡ through (rest b (m + 1)) (m + 1) (o - month_length b m)
  unfolding through
  on_next h = rw (rest_next b m u v) (simp (lt-ltb (month_length b m) o h, add-one m))

  pub total_next : total (rest b m) ≡ month_length b m + total (rest b (m + 1))
  unfolding total
  total_next = rw (rest_next b m u v)

module _ (b : Bool) where
  pub before_first : Before b 1 0
  before_first = record { left = omega (arith, total_first b); same = λ l h. ap (day_of_month b) (zero-add l) ∙ ap (λ (f : ℕ → DayOfMonth). f l) (sym (rest_first b)) }

  pub before_next : (m a n : ℕ) → 1 ≤ m → m ≤ 12 → n ≡ month_length b m → Before b m a → Before b (m + 1) (a + n)
  before_next m a n u v e p = record {
    left = omega (arith, p.left, total_next b m 0 u v);
    same = λ l h. ap (day_of_month b) (add_assoc a n l) ∙ p.same (n + l) (omega arith) ∙ on_next b m (n + l) u v (omega arith)
        ∙ ap (through (rest b (m + 1)) (m + 1)) (omega arith);
  }

  -- the day d of month m is the day a + d of the year
  pub ordinal_is : (m a d : ℕ) → 1 ≤ m → m ≤ 12 → 1 ≤ d → d ≤ month_length b m → Before b m a → day_of_month b (a + d) ≡ record { month = m; day = d }
  ordinal_is m a d u v g h p = p.same d g ∙ on_here b m d u v h

  pub ordinal_within : (m a d : ℕ) → 1 ≤ m → m ≤ 12 → d ≤ month_length b m → Before b m a → a + d ≤ year_length b
  ordinal_within m a d u v h p = omega (arith, p.left, total_next b m 0 u v)
