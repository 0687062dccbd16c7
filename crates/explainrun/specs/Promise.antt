-- What is promised of a run of the explanation: how it starts, and what a turn does by what has happened.
use Rattle.std.specs.Prelude.{ℕ, List}
use Rattle.whole.specs.Text.{bytes}
use Rattle.filter.specs.declared.Phase.TheVariants.{Reading, Ended}
use Rattle.filter.specs.declared.Event.{Event}
use Rattle.filter.specs.declared.State.{State}
use Rattle.filter.specs.Promise.{state_with_value}
use Rattle.nametable.specs.declared.Names.{Names}
use Rattle.catalogue.specs.Promise.{NamesIn}
use Rattle.cataloguerun.specs.declared.CatalogueRun.{CatalogueRun}
use Rattle.cataloguerun.specs.declared.CatalogueRun.TheVariants as Run'
use Rattle.explaining.specs.Paragraph.{Paragraph}
use Rattle.linerun.specs.Promise as L

-- by what the catalogue came to: the input is read, or nothing is, and nothing is written
abbrev pub start_of : CatalogueRun → State
start_of Run'.Ready = state_with_value Reading 0
start_of (Run'.Refused f) = state_with_value Ended 0
start_of Run'.Unread = state_with_value Ended 0
start_of (Run'.Reading n h) = state_with_value Ended 0

unfoldable pub unread : List ℕ
unread = bytes "explain: standard input could not be read to its end; the explanation is not complete\n"

unfoldable pub unwritten : List ℕ
unwritten = bytes "explain: standard output could not be written; the explanation is not complete\n"

-- A turn with the catalogue in the memory m, the block b, the line buffer l and the output o: a line a turn, answered with its paragraph.
abbrev pub GoesOn : Names → List ℕ → List ℕ → List ℕ → State → Event → List ℕ → List ℕ → State → Type 0
GoesOn m = L.GoesOn (Paragraph (NamesIn m)) unread unwritten
