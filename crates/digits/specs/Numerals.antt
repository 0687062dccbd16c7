-- Digits in text, and the numbers that they write. Nothing here reads: each rule says of what parts the bytes are put together. A byte is any number
-- below 256.
-- Assumes nothing.
use Rattle.std.specs.Prelude.{◌≡◌, ℕ, suc, ◌+◌, ◌-◌, ◌*◌, ◌<◌, ◌≤◌, List, [], ◌∷◌, length, take}

-- the bytes '+' and '-'
abbrev pub plus : ℕ
plus = 43

abbrev pub dash : ℕ
dash = 45

-- one of the bytes '0' to '9'
pub record Digit (b : ℕ) : Type 0 where
  pub low : 48 ≤ b
  pub high : b ≤ 57

-- the number that digits write after those that wrote n: each takes it ten times and adds its own value
abbrev pub value_from : ℕ → List ℕ → ℕ
value_from n [] = n
value_from n (b ∷ s) = value_from (n * 10 + (b - 48)) s

abbrev pub value_of : List ℕ → ℕ
value_of s = value_from 0 s

-- nothing but digits
pub data Digits : List ℕ → Type 0 where
  none : Digits []
  more : {b : ℕ} {s : List ℕ} → Digit b → Digits s → Digits (b ∷ s)

-- one or more digits, which write n
pub record Numeral (p : List ℕ) (n : ℕ) : Type 0 where
  pub some : 0 < length p
  pub digits : Digits p
  pub writes : value_of p ≡ n

-- the digits p leave the range 0 to `limit` at digit k, counted from 0: the part that ends with it writes a number outside the range, and every shorter
-- part one inside
pub record Leaves (limit : ℕ) (p : List ℕ) (k : ℕ) : Type 0 where
  pub stands : k < length p
  pub inside : (j : ℕ) → j ≤ k → value_of (take j p) ≤ limit
  pub outside : limit < value_of (take (suc k) p)

-- the digits before these bytes go no further
pub data Stops : List ℕ → Type 0 where
  ended : Stops []
  other : {b : ℕ} {u : List ℕ} → (Digit b → ⊥) → Stops (b ∷ u)
