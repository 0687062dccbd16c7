-- Numbers in text, as the scope has them: one or more digits, leading zeros free, an optional sign before a signed one; and what
-- refusals 8 to 13 and 28 say of a place where a number or a `-` is expected and does not stand. Nothing here reads: each rule says of what
-- parts the bytes are put together. A byte is any number below 256, and `at` is the place of the first of the bytes in the text.
-- Assumes nothing.
use Rattle.std.specs.Prelude.{ℕ, ◌+◌, ◌≤◌, ◌<◌, ◌^◌, ◌≡◌, List, [], ◌∷◌, ◌++◌, ℤ, pos, neg_ℤ}
use Rattle.refusals.specs.declared.Refusal.{Refusal}
use Rattle.refusals.specs.Promise.{refusal}
use Rattle.digits.specs.Numerals.{plus, dash, Digit, Digits, Numeral, Leaves, Stops}

-- a number of unsigned 32 bits
pub record Unsigned (p : List ℕ) (n : ℕ) : Type 0 where
  pub numeral : Numeral p n
  pub fits : n < 2 ^ 32

-- a number of signed 32 bits, with a sign before it or none
pub data Signed : List ℕ → ℤ → Type 0 where
  plain : {p : List ℕ} {n : ℕ} → Numeral p n → n < 2 ^ 31 → Signed p (pos n)
  with_plus : {p : List ℕ} {n : ℕ} → Numeral p n → n < 2 ^ 31 → Signed (plus ∷ p) (pos n)
  with_dash : {p : List ℕ} {n : ℕ} → Numeral p n → n ≤ 2 ^ 31 → Signed (dash ∷ p) (neg_ℤ (pos n))

-- ---- what is wrong, by the rows of 01's table

-- the digits at `at` leave the range 0 to `limit`: the refusal `number`, at the first digit at which they do
pub data TooFar (limit number at : ℕ) : List ℕ → Refusal → Type 0 where
  too_far : {p u : List ℕ} {k : ℕ} → Digits p → Stops u → Leaves limit p k → TooFar limit number at (p ++ u) (refusal number (at + k) (pos 0))

-- an unsigned number is expected
pub data NoNumber (at : ℕ) : List ℕ → Refusal → Type 0 where
  ended : NoNumber at [] (refusal 8 at (pos 0))
  other : {b : ℕ} {u : List ℕ} → (Digit b → ⊥) → NoNumber at (b ∷ u) (refusal 9 at (pos b))
  above : {u : List ℕ} {f : Refusal} → TooFar 4_294_967_295 11 at u f → NoNumber at u f

-- a signed number is expected
pub data NoSigned (at : ℕ) : List ℕ → Refusal → Type 0 where
  ended : NoSigned at [] (refusal 8 at (pos 0))
  other : {b : ℕ} {u : List ℕ} → (Digit b → ⊥) → (b ≡ plus → ⊥) → (b ≡ dash → ⊥) → NoSigned at (b ∷ u) (refusal 9 at (pos b))
  bare_plus : {u : List ℕ} → Stops u → NoSigned at (plus ∷ u) (refusal 10 at (pos 0))
  bare_dash : {u : List ℕ} → Stops u → NoSigned at (dash ∷ u) (refusal 10 at (pos 0))
  above : {u : List ℕ} {f : Refusal} → TooFar 2_147_483_647 11 at u f → NoSigned at u f
  above_plus : {u : List ℕ} {f : Refusal} → TooFar 2_147_483_647 11 (at + 1) u f → NoSigned at (plus ∷ u) f
  below_dash : {u : List ℕ} {f : Refusal} → TooFar 2_147_483_648 28 (at + 1) u f → NoSigned at (dash ∷ u) f

-- a `-` is expected
pub data NoDash (at : ℕ) : List ℕ → Refusal → Type 0 where
  other : {b : ℕ} {u : List ℕ} → (b ≡ dash → ⊥) → NoDash at (b ∷ u) (refusal 12 at (pos b))
  ended : NoDash at [] (refusal 13 at (pos 0))
