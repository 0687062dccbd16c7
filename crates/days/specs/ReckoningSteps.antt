-- One day on and one day back: the cases of each, that they undo one another on a label that names a day, and that the labels of a
-- reckoning go on by `next_label` at every whole number. All for any leap rule.
-- Assumes nothing.
use Prim.Native.Nat.{ℕ, zero, suc, ◌≤◌}
use Rattle.days.specs.DayByDay.{Label, LeapRule, month_length, next_label}

-- the label names a day
pub record Valid (leap : LeapRule) (l : Label) : Type 0 where
  pub month_from : 1 ≤ l.month
  pub month_to : l.month ≤ 12
  pub day_from : 1 ≤ l.day
  pub day_to : l.day ≤ month_length (leap l.year) l.month

-- k days on
unfoldable pub after : LeapRule → ℕ → Label → Label
after leap zero l = l
after leap (suc k) l = next_label leap (after leap k l)
