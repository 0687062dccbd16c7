-- The import as the request M-101 has it: what is written for a catalogue and a comma-separated text. Nothing here reads or writes.
-- What a text comes to, record by record, stands in `Contents` of the crate `commatext`; what the listing writes for a line in `Lines` of the crate `listing`.
-- Assumes nothing.
use Rattle.std.specs.Prelude.{ℕ, List, [], ◌∷◌, ◌++◌, pos, Err}
use Rattle.refusals.specs.Promise.{refusal}
use Rattle.refusals.specs.declared.Refusal.{Refusal}
use Rattle.nametable.specs.Houses.{House}
use Rattle.catalogue.specs.Catalogue.{catalogue, refused_by, Means, NamesWith}
use Rattle.entry.specs.Promise.{Naming}
use Rattle.linetext.specs.Line.{Ended}
use Rattle.columns.specs.Columns.{header}
use Rattle.listing.specs.Lines.{Listed}
use Rattle.commatext.specs.Promise.{line_of}
use Rattle.commatext.specs.Contents.{Outcome, entry, Reads}
use Rattle.commatext.specs.Contents as Contents

-- ---- what is written, where the answer to each name is given: N

-- for a record of two fields what the listing writes for the line of the two; or the refusal
pub data Imported (N : Naming) : Outcome → List ℕ → Type 0 where
  listed : {f g t : List ℕ} → Listed N (line_of f g) t → Imported N (entry f g) t
  told : {n p : ℕ} {t : List ℕ} → Ended (Err (refusal n p (pos 0))) t → Imported N (Contents.refused n p) t

-- and for outcomes one under another
pub data AllImported (N : Naming) : List Outcome → List ℕ → Type 0 where
  none : AllImported N [] []
  next : {r : Outcome} {rs : List Outcome} {t u : List ℕ} → Imported N r t → AllImported N rs u → AllImported N (r ∷ rs) (t ++ u)

-- ---- the whole import, from the bytes of a catalogue and those of an input

-- a header, and then what the records come to, or the `!` line of the catalogue if it is refused
pub data Import (house input : List ℕ) : List ℕ → Type 0 where
  imported : {hs : List House} {rs : List Outcome} {t : List ℕ} → Means house (catalogue hs) → Reads 0 input rs → AllImported (NamesWith hs) rs t → Import house input (header ++ t)
  refused : {f : Refusal} {t : List ℕ} → Means house (refused_by f) → Ended (Err f) t → Import house input (header ++ t)
