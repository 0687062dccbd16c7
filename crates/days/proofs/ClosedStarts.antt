-- From the first days of the years to the label of every day. Days and years are biased: day k is k − dayBias, year y is y − yearBias.
-- `start y` is the first day of year y. What is asked of it is that it goes up by the length of the year, and is right at one year; then
-- every day's label is known by its year and its place in it. For any leap rule: an instance shows five facts of naturals.
-- Assumes nothing.
use Rattle.std.specs.Prelude.{◌≡◌, Bool, ℕ, zero, suc, ◌+◌, ◌-◌, ◌<◌, ◌≤◌, ℤ}
use Rattle.std.proofs.Common.{sym, ◌∙◌, ap, arith}
use Rattle.days.specs.DayByDay.{Label, label, Reckoning, label_of}
use Rattle.days.proofs.ReckoningSteps.{Valid, month_some, after, after_injective, label_valid, label_after}
use Rattle.days.proofs.ClosedYear.{year_length, day_of_year, year_walk, year_over}
use Rattle.whole.specs.Biased.{unbias_suc, unbias_add}
use Rattle.days.specs.BiasedDays.{day_bias, year_bias, day, year}
pub use Rattle.days.specs.ClosedStarts.{Starts, InYear}

-- what goes up and down by one holds everywhere
pub everywhere : (P : ℕ → Type 0) → ((y : ℕ) → P y → P (suc y)) → ((y : ℕ) → P (suc y) → P y) → (k : ℕ) → P k → (y : ℕ) → P y
everywhere P up down zero p zero = p
everywhere P up down zero p (suc y) = up y (everywhere P up down zero p y)
everywhere P up down (suc k) p y = everywhere P up down k (down k p) y

module _ {c : Reckoning} {leap_at : ℕ → Bool} {start : ℕ → ℕ} (s : Starts c leap_at start) where
  abbrev january : ℕ → Label
  january y = label (year y) 1 1

  january_valid : (y : ℕ) → Valid c.leap (january y)
  january_valid y = record { month_from = omega arith; month_to = omega arith; day_from = omega arith; day_to = month_some (c.leap (year y)) 1 (omega arith) (omega arith) }

  -- a day of a year, by the days since 1 January
  within : (y i : ℕ) → i < year_length (leap_at y) → after c.leap i (january y) ≡ day_of_year (leap_at y) (year y) (suc i)
  within y i h = year_walk c.leap (year y) (leap_at y) (s.leap_is y) i h

  over : (y : ℕ) → after c.leap (year_length (leap_at y)) (january y) ≡ january (suc y)
  over y = year_over c.leap (year y) (leap_at y) (s.leap_is y) ∙ ap (λ (z : ℤ). label z 1 1) (sym (unbias_suc year_bias y))

  on : (k i : ℕ) → label_of c (day (k + i)) ≡ after c.leap i (label_of c (day k))
  on k i = ap (label_of c) (unbias_add day_bias k i) ∙ label_after c s.anchor_valid (day k) i

  back : (k i y : ℕ) → label_of c (day (k + i)) ≡ after c.leap i (january y) → label_of c (day k) ≡ january y
  back k i y e = after_injective c.leap i (label_of c (day k)) (january y)
      (label_valid c s.anchor_valid (day k)) (january_valid y) (sym (on k i) ∙ e)

  abbrev Right : ℕ → Type 0
  Right y = label_of c (day (start y)) ≡ january y

  up : (y : ℕ) → Right y → Right (suc y)
  up y e = ap (λ (k : ℕ). label_of c (day k)) (s.start_next y) ∙ on (start y) (year_length (leap_at y))
      ∙ ap (after c.leap (year_length (leap_at y))) e ∙ over y

  down : (y : ℕ) → Right (suc y) → Right y
  down y e = back (start y) (year_length (leap_at y)) y
      (ap (λ (k : ℕ). label_of c (day k)) (sym (s.start_next y)) ∙ e ∙ sym (over y))

  pub start_right : (y : ℕ) → label_of c (day (start y)) ≡ label (year y) 1 1
  start_right = everywhere Right up down s.known
      (back (start s.known) s.place s.known (s.known_label ∙ sym (within s.known s.place s.place_in)))

  -- the label of every day, by its year and the days since 1 January
  pub label_at_lem : (y i : ℕ) → i < year_length (leap_at y) → label_of c (day (start y + i)) ≡ day_of_year (leap_at y) (year y) (suc i)
  label_at_lem y i h = on (start y) i ∙ ap (after c.leap i) (start_right y) ∙ within y i h

  -- and the label of the day is that of its ordinal
  pub label_of_lem : (k y o : ℕ) → InYear leap_at start k y o → label_of c (day k) ≡ day_of_year (leap_at y) (year y) o
  label_of_lem k y o p =
      ap (λ (n : ℕ). label_of c (day n)) (whole k y o p) ∙ label_at_lem y (o - 1) (omega arith) ∙ ap (day_of_year (leap_at y) (year y)) (one_on o p.from)
    where
      whole : (k y o : ℕ) → InYear leap_at start k y o → k ≡ start y + (o - 1)
      whole k y o p = omega arith

      one_on : (o : ℕ) → 1 ≤ o → suc (o - 1) ≡ o
      one_on o h = omega arith
