-- What the private functions say: a month in one reckoning, and the day of a label there.
-- Assumes nothing.
use Rattle.std.specs.Prelude.{◌≡◌, Bool, ℕ, ◌+◌, ◌-◌, ◌<◌, pos, Option, Some, None, Result, Ok, Err}
use Rattle.days.specs.DayByDay.{month_length}
use Rattle.days.specs.ClosedJulian as J
use Rattle.days.specs.ClosedNumbers.{ThereIn, There, days_before_value}
use Rattle.inner.specs.Natural.{biased_year_value}
use Rattle.inner.specs.Spots.{At, spot}
use Rattle.switches.specs.declared.PlainMonth.{PlainMonth}
use Rattle.switches.specs.Promise.{NoneBelow}
use Rattle.inner.specs.declared.Spot.{Spot}
use Rattle.refusals.specs.declared.Refusal.{Refusal}
use Rattle.refusals.specs.Promise.{refusal}

-- a month of a year that starts on a biased day, and is leap or not
pub record MonthIn (leap : Bool) (start m : ℕ) (p : PlainMonth) : Type 0 where
  pub first_is : p.first ≡ start + days_before_value leap m
  pub days_is : p.days ≡ month_length leap m

-- the day of a label in a year that starts on a biased day, and is leap or not
pub data Reads (leap : Bool) (start y m d : ℕ) : Option Spot → Type 0 where
  reads_at : {o : ℕ} → ThereIn leap m d → days_before_value leap m + d ≡ o → Reads leap start y m d (Some (spot (start + o - 1) y o m d))
  reads_none : ¬ ThereIn leap m d → Reads leap start y m d None

-- in the Julian reckoning, where that is before day r; or that this reckoning does not have the label; or that it is to be looked for from r on
pub data ReadsBelow (r y m d : ℕ) : Option (Result Spot Refusal) → Type 0 where
  below_at : {k o : ℕ} → k < r → At J.leap_at J.start k (biased_year_value y) m d o → ReadsBelow r y m d (Some (Ok (spot k y o m d)))
  below_none : ¬ There J.leap_at (biased_year_value y) m d → ReadsBelow r y m d (Some (Err (refusal 4 0 (pos d))))
  below_later : NoneBelow r y m d → ReadsBelow r y m d None
