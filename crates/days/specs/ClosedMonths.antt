-- The months of a year, one after the other: their lengths by cases, and the days before each of them.
-- Assumes nothing.
use Rattle.std.specs.Prelude.{◌≡◌, Bool, List, [], ◌∷◌, ◌⊎◌, ℕ, ◌+◌, ◌-◌, ◌≤◌, drop}
use Rattle.days.specs.DayByDay.{month_lengths}
use Rattle.days.specs.ClosedYear.{year_length, through, day_of_month}

-- the lengths of the months by three cases
abbrev pub Short : ℕ → Type 0
Short m = (m ≡ 4) ⊎ ((m ≡ 6) ⊎ ((m ≡ 9) ⊎ (m ≡ 11)))

-- the lengths from month m on, and their sum
unfoldable pub rest : Bool → ℕ → List ℕ
rest b m = drop (m - 1) (month_lengths b)

unfoldable pub total : List ℕ → ℕ
total [] = 0
total (n ∷ ns) = n + total ns

-- the days before month m are a: the day l from the first of m on is the day a + l of the year
pub record Before (b : Bool) (m : ℕ) (a : ℕ) : Type 0 where
  pub left : a + total (rest b m) ≡ year_length b
  pub same : (l : ℕ) → 1 ≤ l → day_of_month b (a + l) ≡ through (rest b m) m l
