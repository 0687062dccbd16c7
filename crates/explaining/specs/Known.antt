-- Known cases, about the definitions: choices in words, bytes as they are shown, a picture, and a pattern filled.
use Rattle.std.specs.Prelude.{ℕ, ◌+◌, ◌<◌, ◌≡◌, refl, Bool, true, false, [], ◌∷◌, pos, negsuc}
use Rattle.std.proofs.Common.{arith}
use Rattle.whole.specs.Text.{bytes}
use Rattle.digits.specs.Numerals.{Digits}
use Rattle.writer.specs.Promise.{Decimal, WholeDecimal}
use Rattle.expected.specs.declared.Expected.{Expected}
use Rattle.explaining.specs.Patterns.{shown, Filled, end, number, no_number, the_name, the_text, itself}
use Rattle.explaining.specs.Wording.{digit_words, choices, spaces, picture}

abbrev could : ℕ → Bool → Bool → Bool → Expected
could digits dash plus ends = record { digits = digits; dash = dash; plus = plus; ends = ends }

-- one digit that writes itself
one_digit : (n : ℕ) → n < 10 → Decimal ((48 + n) ∷ []) n
one_digit n h = record {
  numeral = record { some = omega arith; digits = Digits.more {b = 48 + n} (record { low = omega arith; high = omega arith }) Digits.none; writes = omega arith };
  unpadded = λ e. refl;
}

pub record Known : Type 0 where
  pub a_beginning : choices (could 10 true true false) ≡ bytes "a digit or \"-\" or \"+\""
  pub near_the_end : choices (could 8 true false false) ≡ bytes "a digit 0 to 7 or \"-\""
  pub only_zero : choices (could 1 false false true) ≡ bytes "the digit 0 or the end"
  pub no_digit : choices (could 0 true false true) ≡ bytes "\"-\" or the end"
  pub only_the_end : choices (could 0 false false true) ≡ bytes "the end"
  pub bytes_shown : shown (65 ∷ 9 ∷ 200 ∷ 126 ∷ []) ≡ bytes "A??~"
  pub a_picture : picture (bytes "2023-x") 5 ≡ bytes "    2023-x\n         ^\n"
  pub a_sentence : Filled (bytes "GB") (bytes "2x") (bytes "~@:##-#") (negsuc 6 ∷ pos 5 ∷ []) (bytes "2xGB:-75-")

pub known : Known
unfolding bytes shown digit_words choices spaces picture
known = record {
  a_beginning = refl;
  near_the_end = refl;
  only_zero = refl;
  no_digit = refl;
  only_the_end = refl;
  bytes_shown = refl;
  a_picture = refl;
  a_sentence =
      the_text
      (the_name
      (itself {b = 58} (λ e. omega arith) (λ e. omega arith) (λ e. omega arith)
      (number (WholeDecimal.negative (one_digit 7 (omega arith)))
      (number (WholeDecimal.not_negative (one_digit 5 (omega arith))) (itself {b = 45} (λ e. omega arith) (λ e. omega arith) (λ e. omega arith) (no_number end))))));
}
