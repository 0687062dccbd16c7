-- Every label that the Gregorian calendar has the Julian one has too, at every whole number: so a label that counts as skipped where it falls into a
-- gap is one of the Julian calendar.
-- Assumes nothing.
use Rattle.std.specs.Prelude.{◌≡◌, Bool, true, false, not, ◌&&◌, ℕ, suc, ◌-◌, ◌<◌, ◌≤◌, ℤ, pos, ◌-ℤ◌}
use Rattle.std.proofs.Common.{sym, ◌∙◌, ap, subst, ⊎_elim, arith, lit≤}
use Rattle.std.proofs.Math.IntN.{suc_ℤ, pred_ℤ, suc-pred}
use Rattle.whole.specs.Tests.{lt_or_ge}
use Rattle.days.specs.DayByDay.{Label, label, month_length, divides, next_label, prev_label, label_of, julian, julian_leap, gregorian, gregorian_leap, Borne, Skippable}
use Rattle.days.proofs.ReckoningSteps.{Valid, next_day, prev_day, prev_month, prev_year, next_valid, prev_valid, next_prev, prev_next, stepping_good, label_valid, month_some}
use Rattle.days.proofs.ReckoningLabels.{julian_next}
use Rattle.days.proofs.ClosedMonths.{twelve}
use Rattle.days.proofs.ClosedJulian as J
use Rattle.days.proofs.ClosedGregorian as G
use Rattle.days.proofs.ClosedNumbers.{numbered, next_is}
use Rattle.days.proofs.ReformationTable.{no_shorter}

-- ---- A month of the Julian calendar has the days of the Gregorian one, and at most one more
one_longer : (b c : Bool) (m : ℕ) → 1 ≤ m → m ≤ 12 → month_length b m ≤ suc (month_length (b && c) m)
unfolding month_length
one_longer true true m h k = omega arith
one_longer true false m h k = twelve (λ m. month_length true m ≤ suc (month_length false m))
    (lit≤ tt) (lit≤ tt) (lit≤ tt) (lit≤ tt) (lit≤ tt) (lit≤ tt) (lit≤ tt) (lit≤ tt) (lit≤ tt) (lit≤ tt) (lit≤ tt) (lit≤ tt) m h k
one_longer false c m h k = omega arith

month_close : (y : ℤ) (m : ℕ) → 1 ≤ m → m ≤ 12 → (month_length (gregorian_leap y) m ≤ month_length (julian_leap y) m) × (month_length (julian_leap y) m ≤ suc (month_length (gregorian_leap y) m))
unfolding gregorian_leap julian_leap
month_close y m h k =
    let c : Bool = not (divides 100 y && not (divides 400 y)) in
    (no_shorter (divides 4 y) c m h k, one_longer (divides 4 y) c m h k)

-- ---- So a step from a label of both ends at a label of both
julian_prev : (n : ℤ) → label_of julian (pred_ℤ n) ≡ prev_label julian_leap (label_of julian n)
unfolding julian
julian_prev n = sym (prev_next julian_leap (label_of julian (pred_ℤ n)) (label_valid julian (J.starts).anchor_valid (pred_ℤ n)))
    ∙ ap (prev_label julian_leap) (sym (julian_next (pred_ℤ n)) ∙ ap (label_of julian) (suc-pred n))

next_borne : {l m : Label} → next_label julian_leap l ≡ m → Borne (label_of julian) l → Borne (label_of julian) m
next_borne e (n, f) = (suc_ℤ n, julian_next n ∙ ap (next_label julian_leap) f ∙ e)

prev_borne : {l m : Label} → prev_label julian_leap l ≡ m → Borne (label_of julian) l → Borne (label_of julian) m
prev_borne e (n, f) = (pred_ℤ n, julian_prev n ∙ ap (prev_label julian_leap) f ∙ e)

module _ (l : Label) (v : Valid gregorian_leap l) (b : Borne (label_of julian) l) where
  abbrev longest : ℕ
  longest = month_length (julian_leap l.year) l.month

  next_too : Borne (label_of julian) (next_label gregorian_leap l)
  next_too = let (f, t) = month_close l.year l.month v.month_from v.month_to in ⊎_elim
      (λ h. next_borne (next_day julian_leap l (omega arith) ∙ sym (next_day gregorian_leap l h)) b)
      (λ h. ⊎_elim
      (λ k. next_borne (next_is julian_leap l.year l.month (suc l.day) (omega arith) ∙ sym (next_is gregorian_leap l.year l.month l.day h)) (next_borne (next_day julian_leap l k) b))
      (λ k. next_borne (next_is julian_leap l.year l.month l.day k ∙ sym (next_is gregorian_leap l.year l.month l.day h)) b)
      (lt_or_ge l.day longest))
      (lt_or_ge l.day (month_length (gregorian_leap l.year) l.month))

  prev_too : Borne (label_of julian) (prev_label gregorian_leap l)
  prev_too = ⊎_elim
      (λ h. prev_borne (prev_day julian_leap l h ∙ sym (prev_day gregorian_leap l h)) b)
      (λ h. ⊎_elim (λ k. last_day h k) (λ k. prev_borne (prev_year julian_leap l h k ∙ sym (prev_year gregorian_leap l h k)) b) (lt_or_ge 1 l.month))
      (lt_or_ge 1 l.day)
    where
      last_day : l.day ≤ 1 → 1 < l.month → Borne (label_of julian) (prev_label gregorian_leap l)
      last_day h k =
          let m : ℕ = l.month - 1 in
          let n : ℕ = month_length (julian_leap l.year) m in
          let g : ℕ = month_length (gregorian_leap l.year) m in
          let (f, t) = month_close l.year m (omega arith) (omega (arith, v.month_to)) in
          let e : prev_label gregorian_leap l ≡ label l.year m g = prev_month gregorian_leap l h k in
          let o : Borne (label_of julian) (label l.year m n) = prev_borne (prev_month julian_leap l h k) b in
          ⊎_elim
          (λ i. prev_borne (prev_day julian_leap (label l.year m n) (omega (arith, month_some (gregorian_leap l.year) m (omega arith) (omega (arith, v.month_to)))) ∙ ap (label l.year m) (omega arith) ∙ sym e) o)
          (λ i. subst (Borne (label_of julian)) (ap (label l.year m) (omega arith) ∙ sym e) o)
          (lt_or_ge g n)

-- ---- The law
record Both (l : Label) : Type 0 where
  valid : Valid gregorian_leap l
  borne : Borne (label_of julian) l

-- 15 October 1582, from which the Gregorian labels are counted
first_both : Both (label (pos 1582) 10 15)
unfolding month_length gregorian
first_both = record { valid = (G.starts).anchor_valid; borne = (_, numbered J.starts 2_147_485_582 10 15 (omega arith, omega arith, omega arith, omega arith)) }

gregorian_both : (n : ℤ) → Both (label_of gregorian n)
unfolding label_of gregorian
gregorian_both n = stepping_good Both
    (λ l p. record { valid = next_valid gregorian_leap l p.valid; borne = next_too l p.valid p.borne })
    (λ l p. record { valid = prev_valid gregorian_leap l p.valid; borne = prev_too l p.valid p.borne })
    (λ l p. next_prev gregorian_leap l p.valid)
    (label (pos 1582) 10 15) first_both (n -ℤ pos 2_299_161)

pub julian_too : {l : Label} → Borne (label_of gregorian) l → Borne (label_of julian) l
julian_too (n, e) = subst (Borne (label_of julian)) e (gregorian_both n).borne

pub skippable_julian : {l : Label} → Skippable l → Borne (label_of julian) l
skippable_julian = ⊎_elim (λ b. b) julian_too
