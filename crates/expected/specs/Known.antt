-- Known cases, about the definition: after `2023` a digit or a `-`; after `2023-1` a digit, a `-` or the end; after `2023-13`, which is no month, no `-`;
-- after `214748364` a `-`, or a digit 0 to 7.
-- Assumes nothing.
use Rattle.std.specs.Prelude.{ℕ, ◌≤◌, refl, true, false, [], ◌∷◌}
use Rattle.std.proofs.Common.{arith}
use Rattle.digits.specs.Numerals.{dash, Digit, Digits, Numeral}
use Rattle.numbertext.specs.Numerals.{Unsigned, Signed}
use Rattle.expected.specs.Promise.{Expects}
use Rattle.expected.specs.Fronts.{expects, YearSoFar, year_expects, second_expects}

digit : (b : ℕ) → 48 ≤ b → b ≤ 57 → Digit b
digit b h k = record { low = h; high = k }

-- the digits of 2023, 1, 13 and 214748364
year_2023 : Numeral (50 ∷ 48 ∷ 50 ∷ 51 ∷ []) 2023
year_2023 = record {
  some = omega arith;
  digits = Digits.more (digit 50 (omega arith) (omega arith)) (Digits.more (digit 48 (omega arith) (omega arith)) (Digits.more (digit 50 (omega arith) (omega arith)) (Digits.more (digit 51 (omega arith) (omega arith)) Digits.none)));
  writes = refl;
}

number_1 : Unsigned (49 ∷ []) 1
number_1 = record { numeral = record { some = omega arith; digits = Digits.more (digit 49 (omega arith) (omega arith)) Digits.none; writes = refl }; fits = omega arith }

number_13 : Unsigned (49 ∷ 51 ∷ []) 13
number_13 = record {
  numeral = record { some = omega arith; digits = Digits.more (digit 49 (omega arith) (omega arith)) (Digits.more (digit 51 (omega arith) (omega arith)) Digits.none); writes = refl };
  fits = omega arith;
}

year_214748364 : Numeral (50 ∷ 49 ∷ 52 ∷ 55 ∷ 52 ∷ 56 ∷ 51 ∷ 54 ∷ 52 ∷ []) 214748364
year_214748364 = record {
  some = omega arith;
  digits = Digits.more (digit 50 (omega arith) (omega arith)) (Digits.more (digit 49 (omega arith) (omega arith)) (Digits.more (digit 52 (omega arith) (omega arith)) (Digits.more (digit 55 (omega arith) (omega arith))
      (Digits.more (digit 52 (omega arith) (omega arith)) (Digits.more (digit 56 (omega arith) (omega arith)) (Digits.more (digit 51 (omega arith) (omega arith)) (Digits.more (digit 54 (omega arith) (omega arith))
      (Digits.more (digit 52 (omega arith) (omega arith)) Digits.none))))))));
  writes = refl;
}

pub record Known : Type 0 where
  pub a_year : Expects (50 ∷ 48 ∷ 50 ∷ 51 ∷ []) (expects 10 true false false)
  pub a_month : Expects (50 ∷ 48 ∷ 50 ∷ 51 ∷ dash ∷ 49 ∷ []) (expects 10 true false true)
  pub no_month : Expects (50 ∷ 48 ∷ 50 ∷ 51 ∷ dash ∷ 49 ∷ 51 ∷ []) (expects 10 false false true)
  pub near_the_end : Expects (50 ∷ 49 ∷ 52 ∷ 55 ∷ 52 ∷ 56 ∷ 51 ∷ 54 ∷ 52 ∷ []) (expects 8 true false false)

pub known : Known
known = record {
  a_year = year_expects (YearSoFar.plain year_2023 (omega arith));
  a_month = second_expects (Signed.plain year_2023 (omega arith)) number_1 true (omega arith, omega arith);
  no_month = second_expects (Signed.plain year_2023 (omega arith)) number_13 false (λ m. omega (arith, m.1));
  near_the_end = year_expects (YearSoFar.plain year_214748364 (omega arith));
}
