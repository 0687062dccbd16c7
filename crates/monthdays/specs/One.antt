-- A promise of the days of a year allows one result.
-- Assumes nothing.
use Rattle.std.specs.Prelude.{◌≡◌, refl, Bool, ℕ, suc, ◌+◌, ◌-◌, ◌<◌, pos, Option, Some}
use Rattle.std.proofs.Common.{sym, ◌∙◌, ap, subst, ⊎_elim, arith}
use Rattle.whole.specs.Tests.{lt_or_ge}
use Rattle.days.specs.DayByDay.{Label, label, ◌≺◌, next_label, prev_label, stepping}
use Rattle.days.proofs.LabelOrder.{≺-irrefl}
use Rattle.days.proofs.ReckoningSteps.{after, after_stepping, after_sum}
use Rattle.days.proofs.ReckoningLabels.{after_later}
use Rattle.days.specs.ClosedNumbers.{days_before_value}
use Rattle.monthdays.specs.Promise.{OfOrdinal, MonthDayOf, month_day, no_month_day, OrdinalOf, ordinal, no_ordinal, MonthDayAt}

-- in any year of the kind an ordinal has one month and day, and they have one ordinal
comes_in : {leap : Bool} {o m d : ℕ} → OfOrdinal leap o m d → stepping (next_label (λ _. leap)) (prev_label (λ _. leap)) (label (pos 0) 1 1) (pos (o - 1)) ≡ label (pos 0) m d
comes_in {leap} p = p.comes (λ _. leap) (pos 0) refl

pub in_year_one : {leap : Bool} {o m d n e : ℕ} → OfOrdinal leap o m d → OfOrdinal leap o n e → (m ≡ n) × (d ≡ e)
in_year_one p q =
    let s : label (pos 0) _ _ ≡ label (pos 0) _ _ = sym (comes_in p) ∙ comes_in q in
    (ap (λ (l : Label). l.month) s, ap (λ (l : Label). l.day) s)

module _ {leap : Bool} {m d : ℕ} where
  -- a later ordinal has a later label
  not_sooner : {o p : ℕ} → OfOrdinal leap o m d → OfOrdinal leap p m d → ¬ (o < p)
  not_sooner {o} {p} a b h = ≺-irrefl (subst (λ (l : Label). label (pos 0) m d ≺ l) same (after_later (λ _. leap) (p - 1 - o) (label (pos 0) m d)))
    where
      gap : o - 1 + suc (p - 1 - o) ≡ p - 1
      gap = omega (arith, a.from)

      same : after (λ _. leap) (suc (p - 1 - o)) (label (pos 0) m d) ≡ label (pos 0) m d
      same = ap (after (λ _. leap) (suc (p - 1 - o))) (sym (comes_in a) ∙ sym (after_stepping (λ _. leap) (o - 1) (label (pos 0) 1 1)))
          ∙ sym (after_sum (λ _. leap) (o - 1) (suc (p - 1 - o)) (label (pos 0) 1 1)) ∙ ap (λ (k : ℕ). after (λ _. leap) k (label (pos 0) 1 1)) gap
          ∙ after_stepping (λ _. leap) (p - 1) (label (pos 0) 1 1) ∙ comes_in b

  pub in_year_ordinal : {o p : ℕ} → OfOrdinal leap o m d → OfOrdinal leap p m d → o ≡ p
  in_year_ordinal {o} {p} a b = ⊎_elim (λ h. absurd (not_sooner a b h)) (λ h. ⊎_elim (λ k. absurd (not_sooner b a k)) (λ k. omega arith) (lt_or_ge p o)) (lt_or_ge o p)

pub month_day_one : {leap : Bool} {o : ℕ} {r s : Option (ℕ × ℕ)} → MonthDayOf leap o r → MonthDayOf leap o s → r ≡ s
month_day_one (month_day p) (month_day q) = let (e, f) = in_year_one p q in cc
month_day_one (month_day p) (no_month_day n) = absurd (n _ _ p)
month_day_one (no_month_day n) (month_day q) = absurd (n _ _ q)
month_day_one (no_month_day n) (no_month_day m) = refl

pub ordinal_one : {leap : Bool} {m d : ℕ} {r s : Option ℕ} → OrdinalOf leap m d r → OrdinalOf leap m d s → r ≡ s
ordinal_one (ordinal p) (ordinal q) = ap Some (in_year_ordinal p q)
ordinal_one (ordinal p) (no_ordinal n) = absurd (n _ p)
ordinal_one (no_ordinal n) (ordinal q) = absurd (n _ q)
ordinal_one (no_ordinal n) (no_ordinal m) = refl

-- a place in a year has one month, and the day is what is left
pub month_day_at_one : {leap : Bool} {o m d n e : ℕ} → MonthDayAt leap o m d → MonthDayAt leap o n e → (m ≡ n) × (d ≡ e)
month_day_at_one {leap} {o} {m} {d} {n} {e} a b =
    let s : m ≡ n = a.month_is ∙ sym b.month_is in
    (s, left (days_before_value leap m) (days_before_value leap n) (ap (days_before_value leap) s) a.day_is b.day_is)
  where
    left : (i j : ℕ) → i ≡ j → i + d ≡ o → j + e ≡ o → d ≡ e
    left i j s p q = omega arith
