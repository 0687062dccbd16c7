-- What the sums promise: which number a date or a refusal adds, and which calendar a letter names.
-- Assumes nothing.
use Rattle.std.specs.Prelude.{ℕ, ◌+◌, ◌*◌, ◌%◌, ◌^◌, ◌≡◌, cond, eqb, pos, Result, Ok, Err}
use Rattle.std.specs.Int.Bits.{bit_xor}
use Rattle.whole.specs.Promise.{unbias}
use Rattle.refusals.specs.declared.Refusal.{Refusal}
use Rattle.calendar.specs.declared.Calendar.{Calendar}
use Rattle.calendar.specs.declared.Calendar.TheVariants as Calendar'
use Rattle.calendar.specs.declared.Style.{Style}
use Rattle.calendar.specs.declared.Style.TheVariants as Style'
use Rattle.calendar.specs.declared.Date.{Date}

abbrev pub plus_value : ℕ → ℕ → ℕ
plus_value a b = (a + b) % 2 ^ 64

abbrev pub style_bit_value : Style → ℕ
style_bit_value Style'.Julian = 0
style_bit_value Style'.Swedish = 0
style_bit_value Style'.Gregorian = 1

-- a number moved up by so many bits, in 64
abbrev pub at_bit : ℕ → ℕ → ℕ
at_bit k n = n * 2 ^ k % 2 ^ 64

-- the fields of a date, each from a bit of its own on; j and y stand for the day number and the year, raised by 2^31
abbrev pub fields_value : Date → ℕ → ℕ → ℕ
fields_value d j y =
    bit_xor (bit_xor (bit_xor (bit_xor j (at_bit 32 d.ordinal)) (at_bit 44 d.month)) (bit_xor (bit_xor (at_bit 50 d.day) (at_bit 56 d.day_ordinal)) (at_bit 12 y))) (at_bit 62 (style_bit_value d.style))

pub data IsFields (d : Date) : ℕ → Type 0 where
  is_fields : (j y : ℕ) → unbias (2 ^ 31) j ≡ d.jdn → unbias (2 ^ 31) y ≡ d.year → IsFields d (fields_value d j y)

-- what an answer adds to a sum
pub data Adds (sum : ℕ) : Result Date Refusal → ℕ → Type 0 where
  date : {d : Date} (n : ℕ) → IsFields d n → Adds sum (Ok d) (plus_value sum n)
  refusal : {f : Refusal} → Adds sum (Err f) (plus_value sum f.number)

-- J and G name the Julian and the Gregorian calendar, and any other letter the one of 1582
abbrev pub calendar_value : ℕ → Calendar
calendar_value letter = cond (eqb letter 74) Calendar'.Julian (cond (eqb letter 71) Calendar'.Gregorian (Calendar'.Reforming (pos 2_299_161)))
