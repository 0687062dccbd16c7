-- A text as the list of its codes.
-- Assumes nothing.
use Rattle.std.specs.Prelude.{List, [], ◌∷◌, ℕ}
use Prim.Native.Char.{code}
use Prim.Native.String.{String, [] as none, ◌∷◌ as ◌then◌}

-- the bytes of a text of ASCII letters
unfoldable pub bytes : String → List ℕ
bytes none = []
bytes (c then s) = code c ∷ bytes s

-- the bytes that part columns and lines
abbrev pub tab : ℕ
tab = 9

abbrev pub newline : ℕ
newline = 10
