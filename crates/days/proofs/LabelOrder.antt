-- The order of labels: no label is earlier than itself, earlier than earlier is earlier, and of two labels one is earlier or they are one.
-- Assumes nothing.
use Rattle.std.specs.Prelude.{◌≡◌, ◌⊎◌, ℕ, ◌<◌, ◌≤◌, ◌≤ℤ◌}
use Rattle.std.proofs.Common.{sym, ◌∙◌, inl, inr, ⊎_elim, arith}
use Rattle.std.specs.Int.Signed.{<ℤ-≤ℤ_trans, <ℤ_irrefl, clash_ℤ}
use Rattle.whole.specs.Tests as N
use Rattle.whole.specs.Integers.{lt_or_ge, lt_le, lt_trans, le_lt_trans, antisym, eq_le}
use Rattle.days.specs.DayByDay.{Label, label, ◌≺◌, by_year, by_month, by_day}

none : (a : ℕ) → a < a → ⊥
none a h = omega arith

pub ≺-irrefl : {l : Label} → l ≺ l → ⊥
≺-irrefl (by_year h) = <ℤ_irrefl h
≺-irrefl {l} (by_month e h) = none l.month h
≺-irrefl {l} (by_day e f h) = none l.day h

pub ≺-trans : {l m n : Label} → l ≺ m → m ≺ n → l ≺ n
≺-trans (by_year h) (by_year k) = by_year (lt_trans h k)
≺-trans (by_year h) (by_month e k) = by_year (<ℤ-≤ℤ_trans h (eq_le e))
≺-trans (by_year h) (by_day e f k) = by_year (<ℤ-≤ℤ_trans h (eq_le e))
≺-trans (by_month e h) (by_year k) = by_year (le_lt_trans (eq_le e) k)
≺-trans (by_month e h) (by_month f k) = by_month (e ∙ f) (omega arith)
≺-trans (by_month e h) (by_day f g k) = by_month (e ∙ f) (omega arith)
≺-trans (by_day e f h) (by_year k) = by_year (le_lt_trans (eq_le e) k)
≺-trans (by_day e f h) (by_month g k) = by_month (e ∙ g) (omega arith)
≺-trans (by_day e f h) (by_day g i k) = by_day (e ∙ g) (f ∙ i) (omega arith)

-- a later label is of no earlier year, and in one year of no earlier month
pub ≺-year : {l m : Label} → l ≺ m → l.year ≤ℤ m.year
≺-year (by_year h) = lt_le h
≺-year (by_month e h) = eq_le e
≺-year (by_day e f h) = eq_le e

pub ≺-month : {l m : Label} → l ≺ m → l.year ≡ m.year → l.month ≤ m.month
≺-month (by_year h) g = clash_ℤ h (eq_le (sym g))
≺-month (by_month e h) g = omega arith
≺-month (by_day e f h) g = omega arith

-- one of two labels is earlier, or they are one
pub ≺-total : (l m : Label) → (l ≺ m) ⊎ ((l ≡ m) ⊎ (m ≺ l))
≺-total l m = ⊎_elim (λ h. inl (by_year h)) (λ h. ⊎_elim (λ k. inr (inr (by_year k))) (λ k. months (antisym k h)) (lt_or_ge m.year l.year)) (lt_or_ge l.year m.year)
  where
    days : l.year ≡ m.year → l.month ≡ m.month → (l ≺ m) ⊎ ((l ≡ m) ⊎ (m ≺ l))
    days e f = ⊎_elim (λ h. inl (by_day e f h))
        (λ h. ⊎_elim (λ k. inr (inr (by_day (sym e) (sym f) k))) (λ k. inr (inl (same (omega arith)))) (N.lt_or_ge m.day l.day)) (N.lt_or_ge l.day m.day)
      where
        same : l.day ≡ m.day → l ≡ m
        same g = let w : label l.year l.month l.day ≡ label m.year m.month m.day = cc in w

    months : l.year ≡ m.year → (l ≺ m) ⊎ ((l ≡ m) ⊎ (m ≺ l))
    months e = ⊎_elim (λ h. inl (by_month e h))
        (λ h. ⊎_elim (λ k. inr (inr (by_month (sym e) k))) (λ k. days e (omega arith)) (N.lt_or_ge m.month l.month)) (N.lt_or_ge l.month m.month)
