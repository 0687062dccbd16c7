-- The calendars: what their timelines say in the words of the scope, and that every accepted one rises.
-- Assumes nothing.
use Rattle.std.specs.Prelude.{◌≡◌, ◌⊎◌, ℤ}
use Rattle.days.specs.DayByDay.{label_of, julian, gregorian, Calendar, labels}

-- day n has its Julian label in the calendar, or its Gregorian one
abbrev pub EitherLabel : Calendar → ℤ → Type 0
EitherLabel c n = (labels c n ≡ label_of julian n) ⊎ (labels c n ≡ label_of gregorian n)
