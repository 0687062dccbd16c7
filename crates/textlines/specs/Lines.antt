-- The lines of a text: a newline ends a line, and a last line needs none. A byte is any number below 256.
use Rattle.std.specs.Prelude.{ℕ, ◌<◌, List, [], ◌∷◌, ◌++◌, length}
use Rattle.whole.specs.Text.{newline}
use Rattle.bytesearch.specs.Promise.{Without}

-- the bytes of the longest line that is read
abbrev pub longest_read : ℕ
longest_read = 512

pub data Lines : List ℕ → List (List ℕ) → Type 0 where
  none : Lines [] []
  last : {l : List ℕ} → Without newline l → 0 < length l → Lines l (l ∷ [])
  line : {l s : List ℕ} {ls : List (List ℕ)} → Without newline l → Lines s ls → Lines (l ++ (newline ∷ s)) (l ∷ ls)

-- ---- the text that came in these blocks

abbrev pub joined : List (List ℕ) → List ℕ
joined [] = []
joined (c ∷ cs) = c ++ joined cs
