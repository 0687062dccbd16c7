-- What is promised of a run of the import: how it starts, and what a turn does by what has happened.
-- Assumes nothing.
use Rattle.std.specs.Prelude.{ℕ, ◌-◌, min, ◌≡◌, Bool, true, false, List, length, take, drop}
use Rattle.whole.specs.Text.{bytes}
use Rattle.writer.specs.Promise.{put}
use Rattle.filter.specs.declared.Phase.TheVariants.{Reading, Midway, Closing, Ended}
use Rattle.filter.specs.declared.Event.{Event}
use Rattle.filter.specs.declared.Event.TheVariants.{Block, InputEnds, Unread, Unwritten, Finished}
use Rattle.filter.specs.declared.State.{State}
use Rattle.filter.specs.Promise.{block_size, room_of, state_with_value, PutsMessage}
use Rattle.listrun.specs.Promise as List'
use Rattle.listrun.specs.Promise.{state_at_value}
use Rattle.nametable.specs.declared.Names.{Names}
use Rattle.catalogue.specs.Promise.{NamesIn}
use Rattle.cataloguerun.specs.declared.CatalogueRun.{CatalogueRun}
use Rattle.importing.specs.declared.Stopped.TheVariants as Stopped'
use Rattle.importing.specs.Promise.{place_of, import_state, Imports}
use Rattle.importrun.specs.declared.ImportRun.{ImportRun}

-- the state of the program, and where in the file the block begins
abbrev pub run_with_value : State → ℕ → ImportRun
run_with_value s o = record { state = s; offset = o }

-- as the listing starts
pub data Starts (c : CatalogueRun) (o o' : List ℕ) : ImportRun → Type 0 where
  starts : {s : State} → List'.Starts c o o' s → Starts c o o' (run_with_value s 0)

-- the bytes at the front of the block that are kept, and those that can be read after them
abbrev pub kept_of : State → ℕ
kept_of s = min s.held block_size

abbrev pub room_left : State → Bool → ℕ
room_left s w = room_of s.phase w - kept_of s

-- the bytes of b from `at` up to `end` stand at its front, and n is their number
pub data Keeps (b : List ℕ) (at end : ℕ) : List ℕ → ℕ → Type 0 where
  keeps : Keeps b at end (put b 0 (drop at (take end b))) (length (drop at (take end b)))

-- With the catalogue in the memory m, records of the first n bytes of b, from an offset on, stand at the front of the output, where b begins at the
-- offset o of the file. A refusal has ended the import; or the output was full before; or what is left is kept for the next read; or nothing is left,
-- since the file has ended.
pub data Advances (m : Names) (b l x : List ℕ) (from n : ℕ) (ends : Bool) (o : ℕ) : List ℕ → List ℕ → List ℕ → ImportRun → Type 0 where
  ended : {l' x' : List ℕ} {at u : ℕ} → Imports (NamesIn m) ends o (take n b) (import_state from l x 0) (import_state at l' x' u) Stopped'.Ended → Advances m b l x from n ends o b l' x' (run_with_value (state_with_value Closing u) o)
  full : {l' x' : List ℕ} {at u : ℕ} → Imports (NamesIn m) ends o (take n b) (import_state from l x 0) (import_state at l' x' u) Stopped'.Full → Advances m b l x from n ends o b l' x' (run_with_value (state_at_value Midway at n 0 u) o)
  spent : {b' l' x' : List ℕ} {at u k : ℕ} → ends ≡ false → Imports (NamesIn m) ends o (take n b) (import_state from l x 0) (import_state at l' x' u) Stopped'.Spent → Keeps b at (min n block_size) b' k
      → Advances m b l x from n ends o b' l' x' (run_with_value (state_at_value Reading 0 0 k u) (place_of o at))
  all_read : {l' x' : List ℕ} {at u : ℕ} → ends ≡ true → Imports (NamesIn m) ends o (take n b) (import_state from l x 0) (import_state at l' x' u) Stopped'.Spent → Advances m b l x from n ends o b l' x' (run_with_value (state_with_value Closing u) o)

unfoldable pub unread : List ℕ
unread = bytes "import: standard input could not be read to its end; the import is not complete\n"

unfoldable pub unwritten : List ℕ
unwritten = bytes "import: standard output could not be written; the import is not complete\n"

-- A turn with the block b, the line buffer l and the output x, by what has happened.
pub data GoesOn (m : Names) (b l x : List ℕ) (r : ImportRun) : Event → List ℕ → List ℕ → List ℕ → ImportRun → Type 0 where
  works_on : {from n : ℕ} {b' l' x' : List ℕ} {r' : ImportRun} → Advances m b l x from (place_of (kept_of r.state) n) false r.offset b' l' x' r' → GoesOn m b l x r (Block from n) b' l' x' r'
  last_record : {b' l' x' : List ℕ} {r' : ImportRun} → Advances m b l x 0 (kept_of r.state) true r.offset b' l' x' r' → GoesOn m b l x r InputEnds b' l' x' r'
  cannot_read : {x' : List ℕ} {s : State} → PutsMessage unread x x' s → GoesOn m b l x r Unread b l x' (run_with_value s r.offset)
  cannot_write : {x' : List ℕ} {s : State} → PutsMessage unwritten x x' s → GoesOn m b l x r Unwritten b l x' (run_with_value s r.offset)
  ends : GoesOn m b l x r Finished b l x (run_with_value (state_with_value Ended 0) r.offset)
