-- Which reformations are accepted, and why another is refused: by the three conditions, and by the table of the scope document.
-- Assumes nothing.
use Rattle.std.specs.Prelude.{ℤ, pos, negsuc, ◌-ℤ◌, ◌≤ℤ◌, ◌≡◌}
use Rattle.days.specs.DayByDay.{Is32Bit, label_of, julian, gregorian, ◌≺◌, JulianDayFits, AcceptedReformation}

pub data Outcome : Type 0 where
  accepted : Outcome
  refused_1 : Outcome
  refused_2 : Outcome

-- by the conditions. Where several fail, they are asked in this order
pub data Judged (r : ℤ) : Outcome → Type 0 where
  no_day_before : ¬ Is32Bit (r -ℤ pos 1) → Judged r refused_1
  no_julian_day : Is32Bit (r -ℤ pos 1) → ¬ JulianDayFits r → Judged r refused_2
  not_later : Is32Bit (r -ℤ pos 1) → JulianDayFits r → ¬ (label_of julian r ≺ label_of gregorian r) → Judged r refused_1
  all_three : AcceptedReformation r → Judged r accepted

-- by the table, row by row
pub data TableRow (r : ℤ) : Outcome → Type 0 where
  row_1 : r ≡ negsuc 2_147_483_647 → TableRow r refused_1
  row_2 : negsuc 2_147_483_646 ≤ℤ r → r ≤ℤ negsuc 2_147_439_514 → TableRow r refused_2
  row_3 : negsuc 2_147_439_513 ≤ℤ r → r ≤ℤ pos 1_830_691 → TableRow r refused_1
  row_4 : pos 1_830_692 ≤ℤ r → r ≤ℤ pos 2_147_439_588 → TableRow r accepted
  row_5 : pos 2_147_439_589 ≤ℤ r → r ≤ℤ pos 2_147_483_647 → TableRow r refused_2
