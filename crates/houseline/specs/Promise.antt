-- What reading a line promises: the length of its name and its number; or, where the number is outside 32 bits, its refusal as a number in the line; or
-- that it is no such line.
use Rattle.std.specs.Prelude.{List, ℕ, ◌+◌, length, drop, ℤ, Result, Ok, Err}
use Rattle.std.specs.Int.{w32}
use Rattle.std.proofs.Common.{SFits}
use Rattle.refusals.specs.declared.Refusal.{Refusal}
use Rattle.numbertext.specs.Numerals.{NoSigned}
use Rattle.houseline.specs.declared.House.{House}
use Rattle.houseline.specs.declared.NoHouse.{NoHouse}
use Rattle.houseline.specs.Form.{Form}

abbrev pub Fits32 : ℤ → Type 0
Fits32 = SFits w32

-- the number after the tab at `end`, as a number in the line, is refused f: of a written number that is 11 or 28, where it leaves 32 bits
abbrev pub LeavesAfter : List ℕ → ℕ → Refusal → Type 0
LeavesAfter l end f = NoSigned (end + 1) (drop (end + 1) l) f

-- a name of so many bytes, and a number
abbrev pub house_read : ℕ → ℤ → Result House NoHouse
house_read end z = Ok (record { name_end = end; number = z })

pub data Reads (l : List ℕ) : Result House NoHouse → Type 0 where
  reads : {name : List ℕ} {z : ℤ} → Form l name z → Fits32 z → Reads l (house_read (length name) z)
  outside : {name : List ℕ} {z : ℤ} {f : Refusal} → Form l name z → LeavesAfter l (length name) f → Reads l (Err (NoHouse.Outside f))
  malformed : ((name : List ℕ) (z : ℤ) → ¬ Form l name z) → Reads l (Err NoHouse.Malformed)
