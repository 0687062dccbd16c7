-- What the conversions say of days and years that are biased as naturals. A 32-bit number that was raised by 2147483648 is biased as somewhat more.
use Rattle.std.specs.Prelude.{Bool, ℕ, ◌+◌, ◌-◌, ◌≤◌, Result, Err, ℤ, Option, Some, None, ok_or}
use Rattle.days.specs.DayByDay.{Is32Bit}
use Rattle.days.specs.BiasedDays.{day, BiasedDay}
use Rattle.days.specs.ClosedYear.{year_length}
use Rattle.inner.specs.declared.NoNumber.{NoNumber}
use Rattle.inner.specs.declared.NoNumber.TheVariants as NoNumber'

abbrev pub biased_day : ℕ → ℕ
biased_day x = x + 782_219_326_294

abbrev pub biased_year_value : ℕ → ℕ
biased_year_value x = x + 352

-- a biased day as a number of 32 bits
pub data Lowers (k : ℕ) : Option ℤ → Type 0 where
  within : BiasedDay k → Lowers k (Some (day k))
  beyond : ¬ Is32Bit (day k) → Lowers k None

-- the o-th day of a year that is leap, or not, and starts on a biased day
pub data OrdinalNumber (leap : Bool) (start o : ℕ) : Result ℤ NoNumber → Type 0 where
  off_year : ((1 ≤ o) × (o ≤ year_length leap) → ⊥) → OrdinalNumber leap start o (Err NoNumber'.Nothing)
  on_year : 1 ≤ o → o ≤ year_length leap → {d : Option ℤ} → Lowers (start + o - 1) d → OrdinalNumber leap start o (ok_or d NoNumber'.Outside32)
