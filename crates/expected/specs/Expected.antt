-- What could have stood at a place of a date text, where u are the bytes before that place: a byte, exactly if some text of the grammar begins with u and
-- then that byte; the end, exactly if u is such a text. Nothing here reads.
-- Assumes nothing.
use Rattle.std.specs.Prelude.{ℕ, List, ◌∷◌, ◌++◌}
use Rattle.datetext.specs.Grammar.{Belongs}

abbrev pub CouldFollow : List ℕ → ℕ → Type 0
CouldFollow u b = (rest : List ℕ) × Belongs (u ++ (b ∷ rest))

abbrev pub CouldEnd : List ℕ → Type 0
CouldEnd u = Belongs u
