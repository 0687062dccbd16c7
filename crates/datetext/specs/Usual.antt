-- The usual text, a year of three or four digits, a month and a day of one or two: each part, once its digits are seen, takes what `Reading` computes a
-- step further.
-- Assumes nothing.
use Rattle.std.specs.Prelude.{ℕ, ◌+◌, ◌*◌, ◌≤◌, ◌<◌, ◌^◌, ◌≡◌, refl, true, List, length, get_or, ℤ, pos, leb, Ok, Option, Some, None}
use Rattle.std.proofs.Common.{sym, ◌∙◌, subst, arith, lt-ltb, leb-true}
use Rattle.std.proofs.Math.Path.{ap}
use Rattle.whole.specs.Biased.{unbias_above}
use Rattle.whole.specs.Promise.{unbias}
use Rattle.digits.specs.Numerals.{dash}
use Rattle.digits.specs.Promise.{pair_of}
use Rattle.digits.specs.Runs.{pick_yes, both, front_end}
use Rattle.digits.specs.Few.{DigitIs, PairIs, pair_seen, digit_front, pair_front, dash_front}
use Rattle.numbertext.specs.Reading.{the_number, the_signed}
use Rattle.numbertext.specs.Places.{dash_yes, end_reached, number_of, signed_of_lem}
use Rattle.datetext.specs.Reading.{is_month_value, to_ymd, after_day, after_month_value, after_second, after_dash_value, after_year, read_text}
use Rattle.datetext.specs.declared.Text.{Text}

-- P holds of a part that is found; of one that is not, nothing is said
pub data IfAt (P : ℕ → ℕ → Type 0) : Option (ℕ × ℕ) → Type 0 where
  found : {n next : ℕ} → P n next → IfAt P (Some (n, next))
  other : IfAt P None

pub if_at : {P : ℕ → ℕ → Type 0} {n next : ℕ} → IfAt P (Some (n, next)) → P n next
if_at (found h) = h

pub nothing_found : {P : ℕ → ℕ → Type 0} → IfAt P None
nothing_found = other

-- ---- what the text comes to once the year, the month or the day is read: n is the number, and `next` the place after it and its dash

pub record YearRead (s : List ℕ) (n next : ℕ) : Type 0 where
  pub small : n < 10000
  pub within : next ≤ length s
  pub read : read_text s ≡ after_second s (pos n) next (the_number s next)

pub record MonthRead (s : List ℕ) (at n next : ℕ) : Type 0 where
  pub within : next ≤ length s
  pub read : (y : ℤ) → after_second s y at (the_number s at) ≡ after_day s y n next (the_number s next)

pub record DayRead (s : List ℕ) (at n : ℕ) : Type 0 where
  pub read : (y : ℤ) (m : ℕ) → after_day s y m at (the_number s at) ≡ Ok (Text.Ymd y m n at)

-- ---- a year or a month that ends at k, where the dash stands
module _ (s : List ℕ) (k : ℕ) (h : k < length s) (d : get_or s k 0 ≡ dash) where
  year_by : {n : ℕ} → n < 10000 → the_signed s 0 ≡ Ok (pos n, k) → YearRead s n (k + 1)
  unfolding read_text
  year_by {n} small e = record { small = small; within = omega arith; read = ap (after_year s) e ∙ ap (after_dash_value s (pos n)) (dash_yes s k h d) }

  month_by : {at m next : ℕ} → next ≡ k + 1 → is_month_value m ≡ true → the_number s at ≡ Ok (m, k) → MonthRead s at m next
  month_by {at} {m} e i f =
      subst (MonthRead s at m) (sym e)
      (record {
        within = omega arith;
        read = λ y. ap (after_second s y at) f ∙ pick_yes _ _ (lt-ltb _ _ h) ∙ pick_yes _ _ i ∙ ap (after_month_value s y m) (dash_yes s k h d);
      })

-- ---- years

four_digits : (s : List ℕ) {high low : ℕ} → 4 < length s → get_or s 4 0 ≡ dash → PairIs s 0 high → PairIs s 2 low → YearRead s (high * 100 + low) 5
four_digits s h d a b =
    year_by s 4 h d (omega (arith, a.is, b.is, a.tens.high, a.ones.high, b.tens.high, b.ones.high))
    (signed_of_lem s _ (omega arith) a.tens (pair_front a (pair_front b (dash_front s 4 h d))) (omega arith) (omega (arith, a.is, b.is)) refl
    (omega (arith, a.is, b.is, a.tens.high, a.ones.high, b.tens.high, b.ones.high)))

three_digits : (s : List ℕ) {high low : ℕ} → 3 < length s → get_or s 3 0 ≡ dash → DigitIs s 0 high → PairIs s 1 low → YearRead s (high * 100 + low) 4
three_digits s h d a b =
    year_by s 3 h d (omega (arith, a.is, b.is, a.digit.high, b.tens.high, b.ones.high))
    (signed_of_lem s _ (omega arith) a.digit (digit_front a (pair_front b (dash_front s 3 h d))) (omega arith) (omega (arith, a.is, b.is)) refl
    (omega (arith, a.is, b.is, a.digit.high, b.tens.high, b.ones.high)))

-- the digits before `at` write n, the hundreds of a year whose dash stands two places on; two digits need not be some
pub data Hundreds (s : List ℕ) : ℕ → ℕ → Type 0 where
  two : {n : ℕ} → 4 < length s → get_or s 4 0 ≡ dash → n ≡ pair_of s 0 → Hundreds s n 2
  one : {n : ℕ} → 3 < length s → get_or s 3 0 ≡ dash → DigitIs s 0 n → Hundreds s n 1

pub hundreds_place : {s : List ℕ} {n at : ℕ} → Hundreds s n at → at ≤ 2
hundreds_place (Hundreds.two h d p) = omega arith
hundreds_place (Hundreds.one h d a) = omega arith

pub year_is : {s : List ℕ} {n at low : ℕ} → Hundreds s n at → n < 100 → PairIs s at low → YearRead s (n * 100 + low) (at + 3)
year_is {s} (Hundreds.two h d p) k b = four_digits s h d (pair_seen s 0 p k) b
year_is {s} (Hundreds.one h d a) k b = three_digits s h d a b

-- a year that is raised and lowered again
pub lowered_year : (n : ℕ) → unbias (2 ^ 31) (2147483648 + n) ≡ pos n
lowered_year n = unbias_above (2 ^ 31) (2147483648 + n) (omega arith) ∙ ap pos (omega arith)

-- ---- months

month_small : (m : ℕ) → is_month_value m ≡ true → m < 100
month_small m i = omega (arith, leb-true m 12 (both (leb 1 m) (leb m 12) i).1)

module _ (s : List ℕ) {at m : ℕ} (i : is_month_value m ≡ true) where
  pub two_digit_month : at + 2 < length s → get_or s (at + 2) 0 ≡ dash → m ≡ pair_of s at → MonthRead s at m (at + 3)
  two_digit_month h d p =
      let a = pair_seen s at p (month_small m i) in
      month_by s (at + 2) h d (omega arith) i
      (number_of s at _ (pair_front a (dash_front s (at + 2) h d)) (omega arith) (omega (arith, a.is)) (omega arith) (omega (arith, a.is, a.tens.high, a.ones.high)))

  pub one_digit_month : at + 1 < length s → get_or s (at + 1) 0 ≡ dash → DigitIs s at m → MonthRead s at m (at + 2)
  one_digit_month h d a =
      month_by s (at + 1) h d (omega arith) i
      (number_of s at _ (digit_front a (dash_front s (at + 1) h d)) (omega arith) (omega (arith, a.is)) (omega arith) (omega (arith, a.is, a.digit.high)))

-- ---- days, which end the text

day_by : (s : List ℕ) {at n next : ℕ} → next ≡ length s → the_number s at ≡ Ok (n, next) → DayRead s at n
day_by s {at} {n} {next} e f = record { read = λ y m. ap (after_day s y m at) f ∙ ap (to_ymd y m n at) (end_reached s next (omega arith) (omega arith)) }

module _ (s : List ℕ) {at n : ℕ} where
  pub two_digit_day : at + 2 ≡ length s → PairIs s at n → DayRead s at n
  two_digit_day h a =
      day_by s h
      (number_of s at _ (pair_front a (front_end s (at + 2) (omega arith))) (omega arith) (omega (arith, a.is)) (omega arith) (omega (arith, a.is, a.tens.high, a.ones.high)))

  pub two_digits_read : at + 2 ≡ length s → n ≡ pair_of s at → n < 100 → DayRead s at n
  two_digits_read h p k = two_digit_day h (pair_seen s at p k)

  pub one_digit_day : at + 1 ≡ length s → DigitIs s at n → DayRead s at n
  one_digit_day h a =
      day_by s h
      (number_of s at _ (digit_front a (front_end s (at + 1) (omega arith))) (omega arith) (omega (arith, a.is)) (omega arith) (omega (arith, a.is, a.digit.high)))
