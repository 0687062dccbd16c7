-- A line of a register as the scope has it: its name and its text.
-- A byte is any number below 256.
-- Assumes nothing.
use Rattle.std.specs.Prelude.{ℕ, List, [], ◌∷◌, ◌++◌}
use Rattle.whole.specs.Text.{tab}
use Rattle.bytesearch.specs.Promise.{Without}
use Rattle.textlines.specs.Lines.{longest_read}

-- the bytes of the longest entry
abbrev pub longest_entry : ℕ
longest_entry = longest_read

-- a name, a tab, a date text. The name ends at the first tab, or at the line's end, and then the text is empty
pub data Entry : List ℕ → List ℕ → List ℕ → Type 0 where
  tabbed : {name text : List ℕ} → Without tab name → Entry (name ++ (tab ∷ text)) name text
  bare : {name : List ℕ} → Without tab name → Entry name name []
