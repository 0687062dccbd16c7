-- The texts among the scope's known days, about the definitions: what each writes, or its first fault.
-- Assumes nothing.
use Rattle.std.specs.Prelude.{ℕ, refl, List, [], ◌∷◌, pos, Ok, Err}
use Rattle.whole.specs.Promise.{signed_of}
use Rattle.refusals.specs.Promise.{refusal}
use Rattle.digits.specs.Numerals.{plus, dash}
use Rattle.digits.specs.Promise.{run_from}
use Rattle.numbertext.specs.Reading.{placed, read_number, signed_run_value, read_signed, read_dash, read_end}
use Rattle.datetext.specs.Promise.{ReadDate}
use Rattle.datetext.specs.Reading.{read_text}
use Rattle.datetext.proofs.Laws.{read_meant}
use Rattle.datetext.specs.declared.Text.{Text}

-- the text `2023-`, and then u
abbrev from_2023 : List ℕ → List ℕ
from_2023 u = 50 ∷ 48 ∷ 50 ∷ 51 ∷ dash ∷ u

pub record Known : Type 0 where
  -- `2023-13` is ordinal 13
  pub thirteen : ReadDate (from_2023 (49 ∷ 51 ∷ [])) (Ok (Text.Ordinal (pos 2023) 13 5))
  -- `2023-13x` 3
  pub no_month : ReadDate (from_2023 (49 ∷ 51 ∷ 120 ∷ [])) (Err (refusal 3 5 (pos 13)))
  -- `2023-1x` 12
  pub no_dash : ReadDate (from_2023 (49 ∷ 120 ∷ [])) (Err (refusal 12 6 (pos 120)))
  -- `2023-1-5x` 14
  pub left_over : ReadDate (from_2023 (49 ∷ dash ∷ 53 ∷ 120 ∷ [])) (Err (refusal 14 8 (pos 120)))
  -- `2023-` 8
  pub no_number : ReadDate (from_2023 []) (Err (refusal 8 5 (pos 0)))
  -- `2023-+5` 9
  pub a_sign : ReadDate (from_2023 (plus ∷ 53 ∷ [])) (Err (refusal 9 5 (pos 43)))
  -- `--5` 10
  pub two_dashes : ReadDate (dash ∷ dash ∷ 53 ∷ []) (Err (refusal 10 0 (pos 0)))
  -- `2147483648-1` 11, at the last digit of the year
  pub too_large : ReadDate (50 ∷ 49 ∷ 52 ∷ 55 ∷ 52 ∷ 56 ∷ 51 ∷ 54 ∷ 52 ∷ 56 ∷ dash ∷ 49 ∷ []) (Err (refusal 11 9 (pos 0)))
  -- `-0-1-1` year 0
  pub year_zero : ReadDate (dash ∷ 48 ∷ dash ∷ 49 ∷ dash ∷ 49 ∷ []) (Ok (Text.Ymd (pos 0) 1 1 5))

pub known : Known
unfolding read_text placed run_from read_number signed_run_value read_signed read_dash read_end signed_of
known =
    record {
      thirteen = read_meant refl;
      no_month = read_meant refl;
      no_dash = read_meant refl;
      left_over = read_meant refl;
      no_number = read_meant refl;
      a_sign = read_meant refl;
      two_dashes = read_meant refl;
      too_large = read_meant refl;
      year_zero = read_meant refl;
    }
