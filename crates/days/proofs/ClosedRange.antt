-- The year of a day of 32 bits has 32 bits.
-- Assumes nothing.
use Rattle.std.specs.Prelude.{◌≡◌, ℕ, ◌+◌, ◌-◌, ◌*◌, ◌/◌, ◌≤◌, ◌<◌}
use Rattle.std.proofs.Common.{le_trans, arith}
use Rattle.days.proofs.ClosedYear.{year_most}
use Rattle.days.proofs.ClosedStarts.{InYear}
use Rattle.days.specs.BiasedDays.{BiasedDay, BiasedYear}
use Rattle.days.proofs.ClosedJulian as J
use Rattle.days.proofs.ClosedGregorian as G

-- the year of a day of 32 bits has 32 bits
in_range_lem : (y a o k : ℕ) → 365 * y ≤ a → a ≤ 366 * y + 16_106_533 → 1 ≤ o → o ≤ 366 → a + o ≡ k + 1 → 782_219_326_294 ≤ k → k < 786_514_293_590 → BiasedYear y
in_range_lem y a o k l u f t e g h = record { from = omega arith; to = omega arith }

pub julian_year : {k y o : ℕ} → BiasedDay k → InYear J.leap_at J.start k y o → BiasedYear y
julian_year {k = k} {y} {o} h p = in_range_lem y (J.start y) o k (omega arith) (omega arith) p.from (omega (arith, year_most (J.leap_at y))) p.adds h.from h.to

pub gregorian_year : {k y o : ℕ} → BiasedDay k → InYear G.leap_at G.start k y o → BiasedYear y
gregorian_year {k = k} {y} {o} h p =
    in_range_lem y (G.start y) o k (low y) (high y) p.from (le_trans p.to (year_most (G.leap_at y))) p.adds h.from h.to
  where
    sum : (y a b c : ℕ) → b ≤ a + 1 → a + c ≤ y + 401 → (365 * y ≤ 365 * y + a + c + 16_106_132 - b) × (365 * y + a + c + 16_106_132 - b ≤ 366 * y + 16_106_533)
    sum y a b c e f = omega arith

    few : (y : ℕ) → (y + 99) / 100 ≤ (y + 3) / 4 + 1
    few y = omega arith

    most : (y : ℕ) → (y + 3) / 4 + (y + 399) / 400 ≤ y + 401
    most y = omega arith

    low : (y : ℕ) → 365 * y ≤ G.start y
    low y = (sum y ((y + 3) / 4) ((y + 99) / 100) ((y + 399) / 400) (few y) (most y)).0

    high : (y : ℕ) → G.start y ≤ 366 * y + 16_106_533
    high y = (sum y ((y + 3) / 4) ((y + 99) / 100) ((y + 399) / 400) (few y) (most y)).1
