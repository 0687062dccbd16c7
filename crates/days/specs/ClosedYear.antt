-- A year's days: from 1 January on, the day of ordinal o (from 1) has the month and the day that going through the months finds,
-- and the day after the last is 1 January of the next year. For any leap rule.
-- Assumes nothing.
use Rattle.std.specs.Prelude.{Bool, cond, List, [], ◌∷◌, ltb, ℤ}
use Prim.Native.Nat.{ℕ, suc, ◌-◌}
use Rattle.days.specs.DayByDay.{Label, label, month_lengths}

-- the days of a year
abbrev pub year_length : Bool → ℕ
year_length leap = cond leap 366 365

-- a month and a day of it
pub record DayOfMonth : Type 0 where
  pub month : ℕ
  pub day : ℕ

-- where the o-th day falls, when the months ahead have these lengths and the first of them is m
unfoldable pub through : List ℕ → ℕ → ℕ → DayOfMonth
through [] m o = record { month = m; day = o }
through (n ∷ ns) m o = cond (ltb n o) (through ns (suc m) (o - n)) (record { month = m; day = o })

-- the month and day of the day of ordinal o
unfoldable pub day_of_month : Bool → ℕ → DayOfMonth
day_of_month leap o = through (month_lengths leap) 1 o

-- the label of the day of ordinal o of a year
abbrev pub day_of_year : Bool → ℤ → ℕ → Label
day_of_year b y o = label y (day_of_month b o).month (day_of_month b o).day
