-- The listing as the scope and the request M-100 have it: what is written for a catalogue and an input. Nothing here reads or writes.
-- Which bytes are a catalogue, and what a name comes to with it, stands in `Catalogue` of the crate `catalogue`.
-- What the lines of an input are stands in `Lines` of the crate `textlines`.
-- What the answer to a line is stands in `Entry` of the crate `entry`, and what the columns of an answer are in `Columns` of the crate `columns`.
-- Assumes nothing.
use Rattle.std.specs.Prelude.{ℕ, List, [], ◌∷◌, ◌++◌, Result, Err}
use Rattle.refusals.specs.declared.Refusal.{Refusal}
use Rattle.nametable.specs.Houses.{House}
use Rattle.catalogue.specs.Catalogue.{catalogue, refused_by, Means, NamesWith}
use Rattle.entry.specs.Promise.{Naming, LineAnswer}
use Rattle.textlines.specs.Lines.{Lines}
use Rattle.linetext.specs.Line.{Ended}
use Rattle.columns.specs.Columns.{header, line_of}
use Rattle.calendar.specs.declared.Date.{Date}

-- ---- what is written, where the answer to each name is given: N

-- what is written for the line l, with its newline
pub data Listed (N : Naming) (l : List ℕ) : List ℕ → Type 0 where
  listed : {a : Result Date Refusal} {t : List ℕ} → LineAnswer N l a → Ended (line_of a) t → Listed N l t

-- and for lines one under another
pub data AllListed (N : Naming) : List (List ℕ) → List ℕ → Type 0 where
  none : AllListed N [] []
  next : {l : List ℕ} {ls : List (List ℕ)} {t u : List ℕ} → Listed N l t → AllListed N ls u → AllListed N (l ∷ ls) (t ++ u)

-- ---- the whole listing, from the bytes of a catalogue and those of an input

-- a header, and then the lines, or the `!` line of the catalogue if it is refused
pub data Listing (house input : List ℕ) : List ℕ → Type 0 where
  listing : {hs : List House} {ls : List (List ℕ)} {t : List ℕ} → Means house (catalogue hs) → Lines input ls → AllListed (NamesWith hs) ls t → Listing house input (header ++ t)
  refused : {f : Refusal} {t : List ℕ} → Means house (refused_by f) → Ended (Err f) t → Listing house input (header ++ t)
