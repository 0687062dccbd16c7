-- The Gregorian calendar in biased naturals: the first day of each year, and so the label of every day.
-- Assumes nothing.
use Rattle.std.specs.Prelude.{Bool, not, ◌&&◌, ℕ, ◌+◌, ◌-◌, ◌*◌, ◌/◌, ◌%◌, eqb}

abbrev pub leap_at : ℕ → Bool
leap_at y = eqb (y % 4) 0 && not (eqb (y % 100) 0 && not (eqb (y % 400) 0))

abbrev pub start : ℕ → ℕ
start y = 365 * y + (y + 3) / 4 + (y + 399) / 400 + 16_106_132 - (y + 99) / 100
