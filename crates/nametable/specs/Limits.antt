-- The limits of a catalogue, and the layout of its memory that follows from them.
use Rattle.std.specs.Prelude.{ℕ, ◌+◌}

-- lines in a catalogue, and bytes in a name
abbrev pub most_lines : ℕ
most_lines = 64

abbrev pub most_name : ℕ
most_name = 31

-- bytes in the slot of a name: the last one has its length
abbrev pub slot : ℕ
slot = most_name + 1

-- chains
abbrev pub heads : ℕ
heads = 1024
