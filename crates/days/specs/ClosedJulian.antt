-- The Julian calendar in biased naturals: the first day of each year, and so the label of every day.
-- Assumes nothing.
use Rattle.std.specs.Prelude.{Bool, ℕ, ◌+◌, ◌*◌, ◌/◌, ◌%◌, eqb}

abbrev pub leap_at : ℕ → Bool
leap_at y = eqb (y % 4) 0

abbrev pub start : ℕ → ℕ
start y = 365 * y + (y + 3) / 4
