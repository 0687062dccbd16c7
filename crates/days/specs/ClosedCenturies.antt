-- The Gregorian year and ordinal of a day, by the rule of the calendar: cycles that are all alike; centuries, of which each fourth, the last of its
-- cycle, is a day longer; years, of which each fourth is a day longer, but not the last of a century that is not the longer one.
-- Assumes nothing.
use Rattle.std.specs.Prelude.{◌≡◌, ℕ, ◌+◌, ◌-◌, ◌*◌, ◌≤◌, ◌/◌, ◌%◌}

abbrev pub days_in_common_year : ℕ
days_in_common_year = 365

abbrev pub days_in_four_years : ℕ
days_in_four_years = 4 * days_in_common_year + 1

abbrev pub days_in_century : ℕ
days_in_century = 25 * days_in_four_years - 1

abbrev pub days_in_cycle : ℕ
days_in_cycle = 4 * days_in_century + 1

-- the first day of year 1
abbrev pub first_cycle : ℕ
first_cycle = 16_106_498

-- before a day so many parts of this length are whole, and so many days of the next; only a fourth has a day past the length
pub record WholeParts (length day parts rest : ℕ) : Type 0 where
  pub adds : (4 * length + 1) * (parts / 4) + length * (parts % 4) + rest ≡ day
  pub within : rest ≤ length
  pub fourth : length ≤ rest → parts % 4 ≡ 3

-- ---- The year after so many whole cycles, centuries of the next and years of that
abbrev pub year_after : ℕ → ℕ → ℕ → ℕ
year_after cycles centuries years = 400 * cycles + 100 * centuries + years + 1
