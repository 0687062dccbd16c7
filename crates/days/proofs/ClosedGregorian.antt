-- The Gregorian calendar in biased naturals: the first day of each year, and so the label of every day.
-- Assumes nothing.
use Rattle.std.specs.Prelude.{◌≡◌, refl, ℕ, suc, ◌+◌, ◌-◌, ◌*◌, ◌≤◌, ◌/◌, ◌%◌}
use Rattle.std.proofs.Common.{sym, ◌∙◌, ap, ⊎_elim, arith, eq-eqb, ne_eqb}
use Rattle.days.specs.DayByDay.{gregorian, gregorian_leap, month_length}
use Rattle.whole.specs.Tests.{eq_or_not}
use Rattle.days.proofs.ReckoningSteps.{Valid, label_anchor}
use Rattle.days.proofs.ClosedYear.{year_length, day_of_month, through}
use Rattle.days.specs.BiasedDays.{year}
use Rattle.days.proofs.ClosedDivides.{divides_4, divides_100, divides_400}
use Rattle.days.proofs.ClosedStarts.{Starts}
pub use Rattle.days.specs.ClosedGregorian.{leap_at, start}

leap_is : (y : ℕ) → gregorian_leap (year y) ≡ leap_at y
unfolding gregorian_leap
leap_is y = rw (divides_4 y, divides_100 y, divides_400 y)

-- the four kinds of years
pub length_by_4 : (y : ℕ) → (y % 4 ≡ 0 → ⊥) → year_length (leap_at y) ≡ 365
length_by_4 y n = simp (ne_eqb (y % 4) 0 n)

pub length_by_100 : (y : ℕ) → y % 4 ≡ 0 → (y % 100 ≡ 0 → ⊥) → year_length (leap_at y) ≡ 366
length_by_100 y e n = simp (eq-eqb (y % 4) 0 e, ne_eqb (y % 100) 0 n)

pub length_by_400 : (y : ℕ) → y % 4 ≡ 0 → y % 100 ≡ 0 → (y % 400 ≡ 0 → ⊥) → year_length (leap_at y) ≡ 365
length_by_400 y e f n = simp (eq-eqb (y % 4) 0 e, eq-eqb (y % 100) 0 f, ne_eqb (y % 400) 0 n)

pub length_400 : (y : ℕ) → y % 4 ≡ 0 → y % 100 ≡ 0 → y % 400 ≡ 0 → year_length (leap_at y) ≡ 366
length_400 y e f g = simp (eq-eqb (y % 4) 0 e, eq-eqb (y % 100) 0 f, eq-eqb (y % 400) 0 g)

-- a ceiling goes up by one where the divisor divides
up_4 : (y : ℕ) → y % 4 ≡ 0 → (suc y + 3) / 4 ≡ (y + 3) / 4 + 1
up_4 y e = omega arith

same_4 : (y : ℕ) → (y % 4 ≡ 0 → ⊥) → (suc y + 3) / 4 ≡ (y + 3) / 4 + 0
same_4 y n = omega arith

up_100 : (y : ℕ) → y % 100 ≡ 0 → (suc y + 99) / 100 ≡ (y + 99) / 100 + 1
up_100 y e = omega arith

same_100 : (y : ℕ) → (y % 100 ≡ 0 → ⊥) → (suc y + 99) / 100 ≡ (y + 99) / 100 + 0
same_100 y n = omega arith

up_400 : (y : ℕ) → y % 400 ≡ 0 → (suc y + 399) / 400 ≡ (y + 399) / 400 + 1
up_400 y e = omega arith

same_400 : (y : ℕ) → (y % 400 ≡ 0 → ⊥) → (suc y + 399) / 400 ≡ (y + 399) / 400 + 0
same_400 y n = omega arith

few : (y : ℕ) → (y + 99) / 100 ≤ y + 1
few y = omega arith

by_400 : (y : ℕ) → y % 400 ≡ 0 → y % 100 ≡ 0
by_400 y e = omega arith

by_100 : (y : ℕ) → y % 100 ≡ 0 → y % 4 ≡ 0
by_100 y e = omega arith

-- the sum of the parts, as unknowns: `omega` sees no division here
parts : (y a b c a' b' c' p q r n : ℕ) → b ≤ y + 1 → a' ≡ a + p → b' ≡ b + q → c' ≡ c + r → n + q ≡ 365 + p + r
    → 365 * suc y + a' + c' + 16_106_132 - b' ≡ 365 * y + a + c + 16_106_132 - b + n
parts y a b c a' b' c' p q r n h e f g t = omega arith

start_by : (y p q r n : ℕ) → (suc y + 3) / 4 ≡ (y + 3) / 4 + p → (suc y + 99) / 100 ≡ (y + 99) / 100 + q → (suc y + 399) / 400 ≡ (y + 399) / 400 + r
    → n + q ≡ 365 + p + r → start (suc y) ≡ start y + n
start_by y p q r n e f g t = parts y ((y + 3) / 4) ((y + 99) / 100) ((y + 399) / 400) ((suc y + 3) / 4) ((suc y + 99) / 100) ((suc y + 399) / 400) p q r n (few y) e f g t

start_next : (y : ℕ) → start (suc y) ≡ start y + year_length (leap_at y)
start_next y = ⊎_elim
    (λ e. ⊎_elim
    (λ f. ⊎_elim
    (λ g. start_by y 1 1 1 366 (up_4 y e) (up_100 y f) (up_400 y g) refl ∙ ap (λ (n : ℕ). start y + n) (sym (length_400 y e f g)))
    (λ n. start_by y 1 1 0 365 (up_4 y e) (up_100 y f) (same_400 y n) refl ∙ ap (λ (n : ℕ). start y + n) (sym (length_by_400 y e f n)))
    (eq_or_not (y % 400) 0))
    (λ n. start_by y 1 0 0 366 (up_4 y e) (same_100 y n) (same_400 y (λ g. n (by_400 y g))) refl ∙ ap (λ (n : ℕ). start y + n) (sym (length_by_100 y e n)))
    (eq_or_not (y % 100) 0))
    (λ n. start_by y 0 0 0 365 (same_4 y n) (same_100 y (λ g. n (by_100 y g))) (same_400 y (λ g. n (by_100 y (by_400 y g)))) refl
    ∙ ap (λ (n : ℕ). start y + n) (sym (length_by_4 y n)))
    (eq_or_not (y % 4) 0)

valid : Valid gregorian_leap gregorian.anchor_label
unfolding gregorian month_length
valid = record { month_from = omega arith; month_to = omega arith; day_from = omega arith; day_to = omega arith }

pub starts : Starts gregorian leap_at start
unfolding gregorian day_of_month through
starts = record {
  anchor_valid = valid;
  leap_is = leap_is;
  start_next = start_next;
  known = 2_147_485_582;
  place = 287;
  place_in = omega arith;
  known_label = label_anchor gregorian valid;
}
