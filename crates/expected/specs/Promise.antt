-- What `expected_at` promises of the bytes u before a place: which digits could follow, the first so many of `0` to `9`; whether a `-`, a `+` and the end
-- could; and that no other byte could.
-- Assumes nothing.
use Rattle.std.specs.Prelude.{ℕ, ◌-◌, ◌≤◌, ◌≡◌, List, ltb}
use Rattle.whole.specs.Whether.{Whether}
use Rattle.digits.specs.Numerals.{plus, dash, Digit}
use Rattle.expected.specs.Expected.{CouldFollow, CouldEnd}
use Rattle.expected.specs.declared.Expected.{Expected}

pub record Expects (u : List ℕ) (e : Expected) : Type 0 where
  pub few : e.digits ≤ 10
  pub digits : (b : ℕ) → Digit b → Whether (CouldFollow u b) (ltb (b - 48) e.digits)
  pub dashes : Whether (CouldFollow u dash) e.dash
  pub pluses : Whether (CouldFollow u plus) e.plus
  pub others : (b : ℕ) → (Digit b → ⊥) → (b ≡ dash → ⊥) → (b ≡ plus → ⊥) → ¬ CouldFollow u b
  pub ends : Whether (CouldEnd u) e.ends
