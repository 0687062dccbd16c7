-- The Swedish calendar by its months: each month begins on its first day and has its days one after the other, so a month is its first day and
-- its length. Three Februaries have another length than their year has it: 28 days in 1700, 30 in 1712, 17 in 1753. From March 1700 up to
-- February 1712 months begin a day before the Julian ones. And which labels are skipped.
-- Assumes nothing.
use Rattle.std.specs.Prelude.{◌≡◌, ℕ, ◌+◌, ◌-◌, ◌*◌, ◌<◌, ◌≤◌, pos}
use Rattle.days.specs.DayByDay.{Label, label, month_length}
use Rattle.days.specs.ClosedJulian as J
use Rattle.days.specs.ClosedGregorian as G
use Rattle.days.specs.ClosedNumbers.{days_before_value}

-- ---- A month: its first day, and its length
pub data SwedishMonth (y m : ℕ) : ℕ → ℕ → Type 0 where
  old_month : 12 * y + m < 25_769_828_402 → SwedishMonth y m (J.start y + days_before_value (J.leap_at y) m) (month_length (J.leap_at y) m)
  february_1700 : y ≡ 2_147_485_700 → m ≡ 2 → SwedishMonth y m (J.start y + days_before_value (J.leap_at y) m) 28
  moved_month : 25_769_828_403 ≤ 12 * y + m → 12 * y + m < 25_769_828_546 → SwedishMonth y m (J.start y + days_before_value (J.leap_at y) m - 1) (month_length (J.leap_at y) m)
  february_1712 : y ≡ 2_147_485_712 → m ≡ 2 → SwedishMonth y m (J.start y + days_before_value (J.leap_at y) m - 1) 30
  again_month : 25_769_828_547 ≤ 12 * y + m → 12 * y + m < 25_769_829_038 → SwedishMonth y m (J.start y + days_before_value (J.leap_at y) m) (month_length (J.leap_at y) m)
  february_1753 : y ≡ 2_147_485_753 → m ≡ 2 → SwedishMonth y m (J.start y + days_before_value (J.leap_at y) m) 17
  new_month : 25_769_829_039 ≤ 12 * y + m → SwedishMonth y m (G.start y + days_before_value (G.leap_at y) m) (month_length (G.leap_at y) m)

-- ---- Skipped labels: 29 February 1700, and 18 to 28 February 1753
pub data SwedishGap : Label → Type 0 where
  in_1700 : SwedishGap (label (pos 1700) 2 29)
  in_1753 : {d : ℕ} → 17 < d → d ≤ 28 → SwedishGap (label (pos 1753) 2 d)
