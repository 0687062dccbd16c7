-- Where a byte stands first, from an offset on. A byte is any number below 256.
use Rattle.std.specs.Prelude.{ℕ, ◌+◌, ◌≡◌, List, [], ◌∷◌, ◌++◌, length, drop}

-- no byte of s is b
pub data Without (b : ℕ) : List ℕ → Type 0 where
  none : Without b []
  more : {x : ℕ} {s : List ℕ} → (x ≡ b → ⊥) → Without b s → Without b (x ∷ s)

-- no byte from `from` up to the offset r is b. At r stands b, or the bytes end. Past the end there are no bytes, and r is `from`
pub data UpTo (b : ℕ) (s : List ℕ) (from : ℕ) (r : ℕ) : Type 0 where
  stands : {q : List ℕ} (u : List ℕ) → drop from s ≡ q ++ (b ∷ u) → Without b q → r ≡ from + length q → UpTo b s from r
  ends : {q : List ℕ} → drop from s ≡ q → Without b q → r ≡ from + length q → UpTo b s from r
