-- What the public functions promise of a read at a place of the bytes.
-- Assumes nothing.
use Rattle.std.specs.Prelude.{ℕ, ◌+◌, ◌≤◌, ◌<◌, List, [], ◌∷◌, ◌++◌, length, drop, ℤ, pos, Result, Ok, Err, ⊤}
use Rattle.refusals.specs.declared.Refusal.{Refusal}
use Rattle.refusals.specs.Promise.{refusal}
use Rattle.digits.specs.Numerals.{dash, Stops}
use Rattle.numbertext.specs.Numerals.{Unsigned, Signed, NoNumber, NoSigned, NoDash}

-- ---- what the bytes from a place on say

-- an unsigned number, up to where its digits end
pub data NumberFrom (at : ℕ) : List ℕ → Result (ℕ × ℕ) Refusal → Type 0 where
  number : {p u : List ℕ} {n : ℕ} → Unsigned p n → Stops u → NumberFrom at (p ++ u) (Ok (n, at + length p))
  no_number : {u : List ℕ} {f : Refusal} → NoNumber at u f → NumberFrom at u (Err f)

-- a signed number, up to where its digits end
pub data SignedFrom (at : ℕ) : List ℕ → Result (ℤ × ℕ) Refusal → Type 0 where
  number : {p u : List ℕ} {y : ℤ} → Signed p y → Stops u → SignedFrom at (p ++ u) (Ok (y, at + length p))
  no_number : {u : List ℕ} {f : Refusal} → NoSigned at u f → SignedFrom at u (Err f)

-- a `-`
pub data DashFrom (at : ℕ) : List ℕ → Result ℕ Refusal → Type 0 where
  a_dash : {u : List ℕ} → DashFrom at (dash ∷ u) (Ok (at + 1))
  no_dash : {u : List ℕ} {f : Refusal} → NoDash at u f → DashFrom at u (Err f)

-- the end; bytes left over are refused 14
pub data EndFrom (at : ℕ) : List ℕ → Result ⊤ Refusal → Type 0 where
  reached : EndFrom at [] (Ok tt)
  left_over : {b : ℕ} {u : List ℕ} → EndFrom at (b ∷ u) (Err (refusal 14 at (pos b)))

-- ---- a read at a place of the bytes s: a place past them is refused 16, and from any other the bytes decide
pub data At {A : Type 0} (From : ℕ → List ℕ → Result A Refusal → Type 0) (s : List ℕ) (at : ℕ) : Result A Refusal → Type 0 where
  past : length s < at → At From s at (Err (refusal 16 0 (pos 0)))
  within : {r : Result A Refusal} → at ≤ length s → From at (drop at s) r → At From s at r

abbrev pub NumberAt : List ℕ → ℕ → Result (ℕ × ℕ) Refusal → Type 0
NumberAt = At NumberFrom

abbrev pub SignedAt : List ℕ → ℕ → Result (ℤ × ℕ) Refusal → Type 0
SignedAt = At SignedFrom

abbrev pub DashAt : List ℕ → ℕ → Result ℕ Refusal → Type 0
DashAt = At DashFrom

abbrev pub EndAt : List ℕ → ℕ → Result ⊤ Refusal → Type 0
EndAt = At EndFrom
