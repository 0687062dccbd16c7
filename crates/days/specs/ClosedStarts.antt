-- From the first days of the years to the label of every day. Days and years are biased: day k is k − dayBias, year y is y − yearBias.
-- `start y` is the first day of year y. What is asked of it is that it goes up by the length of the year, and is right at one year; then
-- every day's label is known by its year and its place in it. For any leap rule: an instance shows five facts of naturals.
-- Assumes nothing.
use Rattle.std.specs.Prelude.{◌≡◌, Bool, ℕ, suc, ◌+◌, ◌<◌, ◌≤◌}
use Rattle.days.specs.DayByDay.{Reckoning, label_of}
use Rattle.days.specs.ReckoningSteps.{Valid}
use Rattle.days.specs.ClosedYear.{year_length, day_of_year}
use Rattle.days.specs.BiasedDays.{day, year}

pub record Starts (c : Reckoning) (leap_at : ℕ → Bool) (start : ℕ → ℕ) : Type 0 where
  pub anchor_valid : Valid c.leap c.anchor_label
  pub leap_is : (y : ℕ) → c.leap (year y) ≡ leap_at y
  pub start_next : (y : ℕ) → start (suc y) ≡ start y + year_length (leap_at y)
  -- a year with the place in it, from 0, of a day whose label is known
  pub known : ℕ
  pub place : ℕ
  pub place_in : place < year_length (leap_at known)
  pub known_label : label_of c (day (start known + place)) ≡ day_of_year (leap_at known) (year known) (suc place)

-- year y and ordinal o add up to day k, and the ordinal is within the year
pub record InYear (leap_at : ℕ → Bool) (start : ℕ → ℕ) (k : ℕ) (y : ℕ) (o : ℕ) : Type 0 where
  pub from : 1 ≤ o
  pub to : o ≤ year_length (leap_at y)
  pub adds : start y + o ≡ k + 1
