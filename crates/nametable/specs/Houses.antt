-- A name with its number, and lists of them.
use Rattle.std.specs.Prelude.{ℕ, List, [], ℤ, pos, slice_index_or}

pub record House : Type 0 where
  pub name : List ℕ
  pub number : ℤ

abbrev pub house : List ℕ → ℤ → House
house s z = record { name = s; number = z }

-- line k of the list, from 0
abbrev pub line_at : List House → ℕ → House
line_at hs k = slice_index_or hs k (house [] (pos 0))

abbrev pub name_at : List House → ℕ → List ℕ
name_at hs k = (line_at hs k).name
