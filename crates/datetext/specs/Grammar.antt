-- The text of a date, as the scope has it: a year, `-`, a number, and then nothing (the second number is an ordinal) or `-` and a number
-- (the second number is a month 1 to 12, the third a day). A year is a signed number of 32 bits, the others are unsigned ones, and leading zeros
-- are free: `numbertext` has the numbers. Nothing here reads: each rule says of what parts a text is put together.
-- Assumes nothing.
use Rattle.std.specs.Prelude.{ℕ, ◌+◌, List, ◌∷◌, ◌++◌, length, ℤ, pos}
use Rattle.refusals.specs.declared.Refusal.{Refusal}
use Rattle.refusals.specs.Promise.{refusal}
use Rattle.digits.specs.Numerals.{dash, Stops}
use Rattle.numbertext.specs.Numerals.{Unsigned, Signed, NoNumber, NoSigned, NoDash}
use Rattle.days.specs.DayByDay.{Month}

-- YEAR-ORDINAL: the year y and the ordinal n, whose field has the place k
pub data OrdinalText : List ℕ → ℤ → ℕ → ℕ → Type 0 where
  ordinal : {p q : List ℕ} {y : ℤ} {n : ℕ} → Signed p y → Unsigned q n → OrdinalText (p ++ (dash ∷ q)) y n (length p + 1)

-- YEAR-MONTH-DAY: the year y, the month m and the day d, whose field has the place k
pub data YmdText : List ℕ → ℤ → ℕ → ℕ → ℕ → Type 0 where
  ymd : {p q t : List ℕ} {y : ℤ} {m d : ℕ} → Signed p y → Unsigned q m → Month m → Unsigned t d
      → YmdText (p ++ (dash ∷ (q ++ (dash ∷ t)))) y m d (length p + 1 + length q + 1)

-- which texts belong to the grammar
pub data Belongs (s : List ℕ) : Type 0 where
  by_ordinal : {y : ℤ} {n k : ℕ} → OrdinalText s y n k → Belongs s
  by_day : {y : ℤ} {m d k : ℕ} → YmdText s y m d k → Belongs s

-- THE FIRST FAULT. A text has it where all before a place is what the grammar takes, a number going on while digits come, and what stands at
-- that place is wrong. There is one rule for each place, in the order of the text.
pub data Fault : List ℕ → Refusal → Type 0 where
  at_year : {s : List ℕ} {f : Refusal} → NoSigned 0 s f → Fault s f
  at_dash : {p u : List ℕ} {y : ℤ} {f : Refusal} → Signed p y → Stops u → NoDash (length p) u f → Fault (p ++ u) f
  at_second : {p u : List ℕ} {y : ℤ} {f : Refusal} → Signed p y → NoNumber (length p + 1) u f → Fault (p ++ (dash ∷ u)) f
  -- the text goes on after the second number, which is then a month, and is judged before the `-` after it
  at_month : {p q u : List ℕ} {y : ℤ} {b m : ℕ} → Signed p y → Unsigned q m → Stops (b ∷ u) → (Month m → ⊥)
      → Fault (p ++ (dash ∷ (q ++ (b ∷ u)))) (refusal 3 (length p + 1) (pos m))
  at_second_dash : {p q u : List ℕ} {y : ℤ} {b m : ℕ} {f : Refusal} → Signed p y → Unsigned q m → Month m → Stops (b ∷ u)
      → NoDash (length p + 1 + length q) (b ∷ u) f → Fault (p ++ (dash ∷ (q ++ (b ∷ u)))) f
  at_third : {p q u : List ℕ} {y : ℤ} {m : ℕ} {f : Refusal} → Signed p y → Unsigned q m → Month m
      → NoNumber (length p + 1 + length q + 1) u f → Fault (p ++ (dash ∷ (q ++ (dash ∷ u)))) f
  left_over : {p q t u : List ℕ} {y : ℤ} {m d b : ℕ} → Signed p y → Unsigned q m → Month m → Unsigned t d → Stops (b ∷ u)
      → Fault (p ++ (dash ∷ (q ++ (dash ∷ (t ++ (b ∷ u)))))) (refusal 14 (length p + 1 + length q + 1 + length t) (pos b))
