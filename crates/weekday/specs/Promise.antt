-- What `for_jdn` promises: the weekday that `DayByDay` gives the day.
-- Assumes nothing.
use Rattle.std.specs.Prelude.{ℕ, ◌≡◌, ℤ}
use Rattle.days.specs.DayByDay.{weekday}

abbrev pub IsWeekday : ℤ → ℕ → Type 0
IsWeekday n w = w ≡ weekday n
