-- The two reckonings: the label of each next day is the next label, their labels rise, and are of a month 1 to 12 and a day 1 to 31.
-- Assumes nothing.
use Rattle.std.specs.Prelude.{◌≡◌, refl, ℕ, zero, suc, ◌≤◌, ℤ, pos, ◌+ℤ◌}
use Rattle.std.proofs.Common.{sym, ◌∙◌, ap, subst, ⊎_elim, arith}
use Rattle.std.proofs.Math.IntN.{suc_ℤ}
use Rattle.whole.specs.Tests as N
use Rattle.whole.specs.Integers.{lt_suc, steps}
use Rattle.days.specs.DayByDay.{Label, LeapRule, Reckoning, month_length, next_label, label_of, julian, gregorian, julian_leap, gregorian_leap, ◌≺◌, by_year, by_month, by_day, Rises}
use Rattle.days.proofs.ReckoningSteps.{Valid, next_day, next_month_lem, next_year, after, label_suc, label_after, label_valid, month_most}
use Rattle.days.proofs.LabelOrder.{≺-trans}
use Rattle.days.proofs.RisingSpans.{Proper}
use Rattle.days.proofs.ClosedJulian as J
use Rattle.days.proofs.ClosedGregorian as G

-- ---- the label of n + 1 is the next label of n's label, for every whole number n
pub julian_next : (n : ℤ) → label_of julian (suc_ℤ n) ≡ next_label julian_leap (label_of julian n)
unfolding julian
julian_next = label_suc julian (J.starts).anchor_valid

pub gregorian_next : (n : ℤ) → label_of gregorian (suc_ℤ n) ≡ next_label gregorian_leap (label_of gregorian n)
unfolding gregorian
gregorian_next = label_suc gregorian (G.starts).anchor_valid

-- ---- labels rise: the next label is later, and so is every label after it
next_later : (leap : LeapRule) (l : Label) → l ≺ next_label leap l
next_later leap l = ⊎_elim
    (λ h. rw (next_day leap l h) (by_day refl refl (omega arith)))
    (λ h. ⊎_elim
    (λ k. rw (next_month_lem leap l h k) (by_month refl (omega arith)))
    (λ k. rw (next_year leap l h k) (by_year (lt_suc l.year)))
    (N.lt_or_ge l.month 12))
    (N.lt_or_ge l.day (month_length (leap l.year) l.month))

pub after_later : (leap : LeapRule) (k : ℕ) (l : Label) → l ≺ after leap (suc k) l
unfolding after
after_later leap zero l = next_later leap l
after_later leap (suc k) l = ≺-trans (after_later leap k l) (next_later leap (after leap (suc k) l))

pub reckoning_rises : (c : Reckoning) → Valid c.leap c.anchor_label → Rises (label_of c)
reckoning_rises c v a b h =
    let s : (k : ℕ) × (b ≡ a +ℤ pos (suc k)) = steps h in
    subst (λ (l : Label). label_of c a ≺ l) (sym (ap (label_of c) s.1 ∙ label_after c v a (suc s.0))) (after_later c.leap s.0 (label_of c a))

pub julian_rises : Rises (label_of julian)
julian_rises = reckoning_rises julian (J.starts).anchor_valid

pub gregorian_rises : Rises (label_of gregorian)
gregorian_rises = reckoning_rises gregorian (G.starts).anchor_valid

-- ---- every label is of a month 1 to 12 and a day from 1
valid_proper : {leap : LeapRule} {l : Label} → Valid leap l → Proper l
valid_proper v = (v.month_from, v.month_to, v.day_from)

pub julian_proper : (n : ℤ) → Proper (label_of julian n)
julian_proper n = valid_proper (label_valid julian (J.starts).anchor_valid n)

pub gregorian_proper : (n : ℤ) → Proper (label_of gregorian n)
gregorian_proper n = valid_proper (label_valid gregorian (G.starts).anchor_valid n)

-- and no day of a month is above 31
valid_most : {leap : LeapRule} {l : Label} → Valid leap l → l.day ≤ 31
valid_most {leap} {l} v = omega (arith, v.day_to, month_most (leap l.year) l.month v.month_from v.month_to)

pub julian_most : (n : ℤ) → (label_of julian n).day ≤ 31
julian_most n = valid_most (label_valid julian (J.starts).anchor_valid n)

pub gregorian_most : (n : ℤ) → (label_of gregorian n).day ≤ 31
gregorian_most n = valid_most (label_valid gregorian (G.starts).anchor_valid n)
