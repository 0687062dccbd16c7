-- Numbers at the two ends of a field's range, about the definitions: at which digit each leaves it, or that it fits. M-104 has them.
-- Assumes nothing.
use Rattle.std.specs.Prelude.{ℕ, refl, ℤ, pos, negsuc, Ok, Err}
use Prim.Native.String.{String}
use Rattle.whole.specs.Text.{bytes}
use Rattle.whole.specs.Promise.{signed_of}
use Rattle.refusals.specs.Promise.{refusal}
use Rattle.digits.specs.Promise.{run_from}
use Rattle.numbertext.specs.Promise.{NumberAt, SignedAt}
use Rattle.numbertext.specs.Reading.{placed, read_number, signed_run_value, read_signed}
use Rattle.numbertext.specs.Meaning.{number_meant, signed_meant}

-- a text that begins with a signed number: it leaves 32 bits at the byte `place`, or it is y and goes up to `next`
abbrev SignedLeaves : String → ℕ → ℕ → Type 0
SignedLeaves text number place = SignedAt (bytes text) 0 (Err (refusal number place (pos 0)))

abbrev SignedFits : String → ℤ → ℕ → Type 0
SignedFits text y next = SignedAt (bytes text) 0 (Ok (y, next))

-- a text that begins with an unsigned number
abbrev UnsignedLeaves : String → ℕ → Type 0
UnsignedLeaves text place = NumberAt (bytes text) 0 (Err (refusal 11 place (pos 0)))

abbrev UnsignedFits : String → ℕ → ℕ → Type 0
UnsignedFits text n next = NumberAt (bytes text) 0 (Ok (n, next))

pub record Known : Type 0 where
  pub greatest : SignedFits "2147483647" (pos 2_147_483_647) 10
  pub one_above : SignedLeaves "2147483648" 11 9
  pub a_digit_more : SignedLeaves "21474836470" 11 10
  pub three_thousand_millions : SignedLeaves "3000000000" 11 9
  pub one_above_with_plus : SignedLeaves "+2147483648" 11 10
  pub least : SignedFits "-2147483648" (negsuc 2_147_483_647) 11
  pub one_below : SignedLeaves "-2147483649" 28 10
  pub far_above : SignedLeaves "99999999999-1-1" 11 9
  pub far_below : SignedLeaves "-99999999999-1-1" 28 10
  -- zeros before it shift the place and never leave, and what comes after it does not matter
  pub zeros_above : SignedLeaves "000000000000002147483648x" 11 23
  pub zeros_below : SignedLeaves "-000000000000002147483649x" 28 24
  pub greatest_unsigned : UnsignedFits "4294967295" 4_294_967_295 10
  pub one_above_unsigned : UnsignedLeaves "4294967296" 9
  pub zeros_unsigned : UnsignedLeaves "00042949672960x" 12

pub known : Known
unfolding bytes placed run_from read_number signed_run_value read_signed signed_of
known =
    record {
      greatest = signed_meant refl;
      one_above = signed_meant refl;
      a_digit_more = signed_meant refl;
      three_thousand_millions = signed_meant refl;
      one_above_with_plus = signed_meant refl;
      least = signed_meant refl;
      one_below = signed_meant refl;
      far_above = signed_meant refl;
      far_below = signed_meant refl;
      zeros_above = signed_meant refl;
      zeros_below = signed_meant refl;
      greatest_unsigned = number_meant refl;
      one_above_unsigned = number_meant refl;
      zeros_unsigned = number_meant refl;
    }
