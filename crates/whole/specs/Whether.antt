-- What it means that a function tells whether something holds.
-- Assumes nothing.
use Rattle.std.specs.Prelude.{Bool, true, false}

-- the answer b to the question whether P
abbrev pub Whether : Type 0 → Bool → Type 0
Whether P true = P
Whether P false = ¬ P
