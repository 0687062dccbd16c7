-- The weekday of a day that is biased as a natural: a remainder by 7.
-- Assumes nothing.
use Rattle.std.specs.Prelude.{ℕ, ◌≤◌}

pub record InWeek (w : ℕ) : Type 0 where
  pub from : 1 ≤ w
  pub to : w ≤ 7
