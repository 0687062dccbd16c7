-- The explanation of an input: what is written for a catalogue and the lines of an input. Nothing here reads or writes.
-- What the paragraph for a line is stands in `Paragraph` of the crate `explaining`.
use Rattle.std.specs.Prelude.{ℕ, List, []}
use Rattle.refusals.specs.declared.Refusal.{Refusal}
use Rattle.nametable.specs.Houses.{House}
use Rattle.catalogue.specs.Catalogue.{catalogue, refused_by, Means, NamesWith}
use Rattle.explaining.specs.Paragraph.{Paragraph}
use Rattle.linerun.specs.Promise.{LinesOut}

-- the paragraphs of the lines, one under another; nothing, where the catalogue is refused
pub data Explanation (house input : List ℕ) : List ℕ → Type 0 where
  explanation : {hs : List House} {t : List ℕ} → Means house (catalogue hs) → LinesOut (Paragraph (NamesWith hs)) input t → Explanation house input t
  refused : {f : Refusal} → Means house (refused_by f) → Explanation house input []
