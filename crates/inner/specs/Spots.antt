-- A day with its label in one reckoning, as naturals.
-- Assumes nothing.
use Rattle.std.specs.Prelude.{◌≡◌, Bool, ℕ, ◌+◌, ◌-◌, ◌≤◌}
use Rattle.std.proofs.Common.{arith}
use Rattle.days.specs.BiasedDays.{BiasedYear}
use Rattle.days.proofs.ClosedYear.{year_most}
use Rattle.days.proofs.ClosedNumbers.{There, number, days_before_value, before}
use Rattle.days.proofs.ClosedMonths.{ordinal_within}
use Rattle.inner.specs.declared.Spot.{Spot}

abbrev pub spot : ℕ → ℕ → ℕ → ℕ → ℕ → Spot
spot k y o m d = record { biased = k; year = y; ordinal = o; month = m; day = d }

-- day k is the day d of the month m of the year y, and the o-th of that year
pub record At (leap_at : ℕ → Bool) (start : ℕ → ℕ) (k y m d o : ℕ) : Type 0 where
  pub biased : BiasedYear y
  pub there : There leap_at y m d
  pub ordinal_is : days_before_value (leap_at y) m + d ≡ o
  pub adds : start y + o ≡ k + 1

-- ---- Its day number and its ordinal
module _ {leap_at : ℕ → Bool} {start : ℕ → ℕ} {k y m d o : ℕ} (a : At leap_at start k y m d o) where
  pub at_number : number leap_at start y m d ≡ k
  at_number = sum (start y) (days_before_value (leap_at y) m) a.ordinal_is a.adds a.there.2
    where
      sum : (s b : ℕ) → b + d ≡ o → s + o ≡ k + 1 → 1 ≤ d → s + b + d - 1 ≡ k
      sum s b e f h = omega arith

  pub at_from : 1 ≤ o
  at_from = omega (arith, a.ordinal_is, a.there.2)

  pub at_few : o ≤ 366
  at_few =
      let t : There leap_at y m d = a.there in
      omega (arith, a.ordinal_is, ordinal_within (leap_at y) m (days_before_value (leap_at y) m) d t.0 t.1 t.3 (before (leap_at y) m t.0 t.1), year_most (leap_at y))
