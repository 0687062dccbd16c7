-- What follows from `Rises` alone, for any labelling of the days: labels are in the order of their days, no two days bear one label, and the
-- days of a year, and those of a month, are one run. And what follows from `Place` and `Days` alone: a day has one place, one day has a place.
-- Assumes nothing.
use Rattle.std.specs.Prelude.{ℤ, ◌≤ℤ◌}

-- ---- days that are one run
-- between two days with P every day has P
abbrev pub Run : (ℤ → Type 0) → Type 0
Run P = (a d b : ℤ) → a ≤ℤ d → d ≤ℤ b → P a → P b → P d
