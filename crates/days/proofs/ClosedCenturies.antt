-- The Gregorian year and ordinal of a day, by the rule of the calendar: cycles that are all alike; centuries, of which each fourth, the last of its
-- cycle, is a day longer; years, of which each fourth is a day longer, but not the last of a century that is not the longer one.
-- Assumes nothing.
use Rattle.std.specs.Prelude.{◌≡◌, ℕ, ◌+◌, ◌-◌, ◌*◌, ◌<◌, ◌≤◌, ◌/◌, ◌%◌}
use Rattle.std.proofs.Common.{sym, ◌∙◌, ap, ⊎_elim, le_trans, le_of_eq, mod-lt, mul-add, add-mul, mul_assoc, mul_left_comm, arith}
use Rattle.std.proofs.Math.Nat.{div-add-mod}
use Rattle.whole.specs.Tests.{lt_or_ge, eq_or_not}
use Rattle.days.proofs.ClosedYear.{year_length, year_some}
use Rattle.days.proofs.ClosedStarts.{InYear}
use Rattle.days.proofs.ClosedGregorian as G
pub use Rattle.days.specs.ClosedCenturies.{days_in_common_year, days_in_four_years, days_in_century, days_in_cycle, first_cycle, WholeParts, year_after}

-- ---- Parts of which each fourth is a day longer

-- counted in quarters of a day: every part has one beyond its whole days, and a day belongs to the part into which its last quarter falls
pub counted_in_quarters : {length day four quarter : ℕ} → four ≡ 4 * length + 1 → quarter ≡ 4 * day + 3 → WholeParts length day (quarter / four) (quarter % four / 4)
counted_in_quarters {length} {day} {four} {quarter} e f = counted (quarter / four) (quarter % four) (div-add-mod quarter four) (mod-lt quarter (omega arith))
  where
    -- the parts in fours, and those after the last four
    in_fours : (fours after : ℕ) → (4 * length + 1) * (4 * fours + after) ≡ 4 * ((4 * length + 1) * fours) + 4 * (length * after) + after
    in_fours fours after = omega (arith, mul-add (4 * length + 1) (4 * fours) after, mul_left_comm (4 * length + 1) 4 fours, add-mul (4 * length) 1 after, mul_assoc 4 length after)

    days : (a b after left : ℕ) → after ≤ 3 → 4 * a + 4 * b + after + left ≡ 4 * day + 3 → left < 4 * length + 1
        → (a + b + left / 4 ≡ day) × (left / 4 ≤ length) × (length ≤ left / 4 → after ≡ 3)
    days a b after left h g l = (omega arith, omega arith, λ m. omega arith)

    counted : (parts left : ℕ) → four * parts + left ≡ quarter → left < four → WholeParts length day parts (left / 4)
    counted parts left s l =
        let w : parts ≡ 4 * (parts / 4) + parts % 4 = omega arith in
        let (a, b, c) = days ((4 * length + 1) * (parts / 4)) (length * (parts % 4)) (parts % 4) left (omega arith)
        (omega (arith, ap (λ (n : ℕ). n * parts) e, ap (λ (n : ℕ). (4 * length + 1) * n) w, in_fours (parts / 4) (parts % 4))) (omega arith) in
        record { adds = a; within = b; fourth = c }

module _ (cycles centuries years : ℕ) (h : centuries ≤ 3) (g : years ≤ 99) where
  abbrev here : ℕ
  here = year_after cycles centuries years

  abbrev passed : ℕ
  passed = days_in_cycle * cycles + days_in_century * centuries + days_in_four_years * (years / 4) + days_in_common_year * (years % 4)

  -- the multiples of 4, of 100 and of 400 before it
  by_4 : (here + 3) / 4 ≡ 100 * cycles + 25 * centuries + years / 4 + 1
  by_4 = omega arith

  by_100 : (here + 99) / 100 ≡ 4 * cycles + centuries + 1
  by_100 = omega arith

  by_400 : (here + 399) / 400 ≡ cycles + 1
  by_400 = omega arith

  first_day : G.start here ≡ first_cycle + passed
  first_day = sum ((here + 3) / 4) ((here + 99) / 100) ((here + 399) / 400) by_4 by_100 by_400
    where
      sum : (a b c : ℕ) → a ≡ 100 * cycles + 25 * centuries + years / 4 + 1 → b ≡ 4 * cycles + centuries + 1 → c ≡ cycles + 1
          → 365 * here + a + c + 16_106_132 - b ≡ first_cycle + passed
      sum a b c d e f = omega arith

  -- each fourth year is leap, but the last of a century only if the century is the last of its cycle
  leap : years % 4 ≡ 3 → (years ≡ 99 → centuries ≡ 3) → year_length (G.leap_at here) ≡ 366
  leap e c = ⊎_elim
      (λ l. G.length_400 here (omega arith) (omega arith) (whole (cycles + 1) (omega (arith, c l))))
      (λ n. G.length_by_100 here (omega arith) (λ i. n (omega arith)))
      (eq_or_not years 99)
    where
      whole : (n : ℕ) → here ≡ 400 * n → here % 400 ≡ 0
      whole n e = omega arith

  in_year_after : {k o : ℕ} → 1 ≤ o → o ≤ 366 → (365 < o → (years % 4 ≡ 3) × (years ≡ 99 → centuries ≡ 3)) → first_cycle + passed + o ≡ k + 1
      → InYear G.leap_at G.start k here o
  in_year_after {o = o} from to last adds = record {
    from = from;
    to = ⊎_elim
        (λ l. le_trans to (le_of_eq (sym (leap (last l).0 (last l).1))))
        (λ m. le_trans m (year_some (G.leap_at here)))
        (lt_or_ge 365 o);
    adds = ap (λ (d : ℕ). d + o) first_day ∙ adds;
  }

-- so of any day, from the centuries of its cycle and the years of its century
pub by_the_rule : (k cycles : ℕ) {day centuries of_century years of_year_lem : ℕ} → first_cycle + days_in_cycle * cycles + day ≡ k → day < days_in_cycle
    → WholeParts days_in_century day centuries of_century → WholeParts days_in_common_year of_century years of_year_lem
    → InYear G.leap_at G.start k (year_after cycles centuries years) (of_year_lem + 1)
by_the_rule k cycles {centuries = centuries} {years = years} e h c y =
    in_year_after cycles centuries years (omega arith) (omega arith) (omega arith) (omega arith)
    (λ l. (y.fourth (omega arith), λ m. last_of_cycle (c.fourth (omega (arith, y.fourth (omega arith))))))
    (omega arith)
  where
    last_of_cycle : centuries % 4 ≡ 3 → centuries ≡ 3
    last_of_cycle i = omega arith
