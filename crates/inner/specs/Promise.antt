-- What the conversions promise, in the words of the day-by-day definition.
use Rattle.std.specs.Prelude.{ℕ, ℤ, Result, Ok, Err}
use Rattle.days.specs.DayByDay.{Label, OfYear, Place, Ordinal, Is32Bit}
use Rattle.inner.specs.declared.NoNumber.{NoNumber}
use Rattle.inner.specs.declared.NoNumber.TheVariants as NoNumber'

-- day n is of the year y, and has the ordinal o
pub record YearAndOrdinal (f : ℤ → Label) (n y : ℤ) (o : ℕ) : Type 0 where
  pub year_is : OfYear y (f n)
  pub ordinal_is : Ordinal f n o

-- n is the o-th day of the year y
pub record OrdinalDay (f : ℤ → Label) (y : ℤ) (o : ℕ) (n : ℤ) : Type 0 where
  pub of_year_lem : OfYear y (f n)
  pub place : Place (λ d. OfYear y (f d)) n o

-- its number; or there is no such day; or its number is outside 32 bits
pub data DayOfOrdinal (f : ℤ → Label) (y : ℤ) (o : ℕ) : Result ℤ NoNumber → Type 0 where
  numbered : {n : ℤ} → Is32Bit n → OrdinalDay f y o n → DayOfOrdinal f y o (Ok n)
  no_such_day : ((n : ℤ) → ¬ OrdinalDay f y o n) → DayOfOrdinal f y o (Err NoNumber'.Nothing)
  outside_32 : {n : ℤ} → ¬ Is32Bit n → OrdinalDay f y o n → DayOfOrdinal f y o (Err NoNumber'.Outside32)
