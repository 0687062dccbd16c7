-- What is promised of a run of the listing: how it starts, and what a turn does by what has happened.
-- Assumes nothing.
use Rattle.std.specs.Prelude.{ℕ, ◌≤◌, ◌<◌, List, ◌++◌, length, take, Err}
use Rattle.whole.specs.Text.{bytes}
use Rattle.writer.specs.Promise.{put}
use Rattle.columns.specs.Columns.{header}
use Rattle.listing.specs.Promise.{LastLine, block_state, Lists}
use Rattle.filter.specs.declared.Phase.{Phase}
use Rattle.filter.specs.declared.Phase.TheVariants.{Reading, Midway, Closing, Ended}
use Rattle.filter.specs.declared.Event.{Event}
use Rattle.filter.specs.declared.Event.TheVariants.{Block, InputEnds, Unread, Unwritten, Finished}
use Rattle.filter.specs.declared.State.{State}
use Rattle.filter.specs.Promise.{state_with_value, PutsMessage}
use Rattle.refusals.specs.declared.Refusal.{Refusal}
use Rattle.linetext.specs.Promise.{LineOut}
use Rattle.nametable.specs.declared.Names.{Names}
use Rattle.catalogue.specs.Promise.{NamesIn}
use Rattle.cataloguerun.specs.declared.CatalogueRun.{CatalogueRun}
use Rattle.cataloguerun.specs.declared.CatalogueRun.TheVariants as Run'

-- the header stands at the front of the output o
pub data Begins (o : List ℕ) : List ℕ → State → Type 0 where
  begins : Begins o (put o 0 header) (state_with_value Reading (length header))

-- under it stands the line of a catalogue that is refused, and nothing is read
pub data Refuses (f : Refusal) (o : List ℕ) : List ℕ → State → Type 0 where
  refuses : {t : List ℕ} → LineOut (Err f) t → Refuses f o (put o 0 (header ++ t)) (state_with_value Closing (length (header ++ t)))

-- by what the catalogue came to; one that could not be read lists nothing
pub data Starts : CatalogueRun → List ℕ → List ℕ → State → Type 0 where
  with_catalogue : {o o' : List ℕ} {s : State} → Begins o o' s → Starts Run'.Ready o o' s
  with_refused : {f : Refusal} {o o' : List ℕ} {s : State} → Refuses f o o' s → Starts (Run'.Refused f) o o' s
  with_unread : {o : List ℕ} → Starts Run'.Unread o o (state_with_value Ended 0)
  with_unfinished : {n h : ℕ} {o : List ℕ} → Starts (Run'.Reading n h) o o (state_with_value Ended 0)

abbrev pub state_at_value : Phase → ℕ → ℕ → ℕ → ℕ → State
state_at_value p at n h u = record { phase = p; at = at; count = n; held = h; used = u }

-- With the catalogue in the memory m, lines of the first n bytes of b, from an offset on, stand at the front of the output, with h bytes of a line
-- held before them in l. Those bytes are then used up, or the output was full before.
pub data Advances (m : Names) (b l o : List ℕ) (from n h : ℕ) : List ℕ → List ℕ → State → Type 0 where
  used_up : {l' o' : List ℕ} {at h' u : ℕ} → Lists (NamesIn m) (take n b) (block_state from l h o 0) (block_state at l' h' o' u) → n ≤ at → Advances m b l o from n h l' o' (state_at_value Reading at n h' u)
  within : {l' o' : List ℕ} {at h' u : ℕ} → Lists (NamesIn m) (take n b) (block_state from l h o 0) (block_state at l' h' o' u) → at < n → Advances m b l o from n h l' o' (state_at_value Midway at n h' u)

-- the last line, where it had no newline, stands there
pub data Closes (m : Names) (l : List ℕ) (h : ℕ) (o : List ℕ) : List ℕ → State → Type 0 where
  closes : {t : List ℕ} → LastLine (NamesIn m) l h t → Closes m l h o (put o 0 t) (state_with_value Closing (length t))

unfoldable pub unread : List ℕ
unread = bytes "list: standard input could not be read to its end; the listing is not complete\n"

unfoldable pub unwritten : List ℕ
unwritten = bytes "list: standard output could not be written; the listing is not complete\n"

-- A turn with the block b, the line buffer l and the output o, by what has happened.
pub data GoesOn (m : Names) (b l o : List ℕ) (s : State) : Event → List ℕ → List ℕ → State → Type 0 where
  works_on : {from n : ℕ} {l' o' : List ℕ} {s' : State} → Advances m b l o from n s.held l' o' s' → GoesOn m b l o s (Block from n) l' o' s'
  last_line : {o' : List ℕ} {s' : State} → Closes m l s.held o o' s' → GoesOn m b l o s InputEnds l o' s'
  cannot_read : {o' : List ℕ} {s' : State} → PutsMessage unread o o' s' → GoesOn m b l o s Unread l o' s'
  cannot_write : {o' : List ℕ} {s' : State} → PutsMessage unwritten o o' s' → GoesOn m b l o s Unwritten l o' s'
  ends : GoesOn m b l o s Finished l o (state_with_value Ended 0)
