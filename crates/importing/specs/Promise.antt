-- What is promised of a text that is imported from an offset on. `ends` tells whether the file ends after it, o is where in the file it begins. The
-- answer to each name is given: N.
-- Assumes nothing.
use Rattle.std.specs.Prelude.{ℕ, ◌+◌, ◌≤◌, ◌<◌, min, Bool, List, length, drop, pos, Err}
use Rattle.refusals.specs.Promise.{refusal}
use Rattle.writer.specs.Promise.{put}
use Rattle.entry.specs.Promise.{Naming}
use Rattle.linetext.specs.Line.{longest_line}
use Rattle.linetext.specs.Promise.{LineOut}
use Rattle.listing.specs.Promise.{HeldLine}
use Rattle.commatext.specs.declared.Scan.TheVariants.{Entry, Miscounted, Stops, Undecided}
use Rattle.commatext.specs.Promise.{Scans}
use Rattle.importing.specs.declared.Taken.{Taken}
use Rattle.importing.specs.declared.Stopped.{Stopped}
use Rattle.importing.specs.declared.Progress.{Progress}

-- ---- offsets in the file

-- the greatest number that an offset can be
abbrev pub most_place : ℕ
most_place = 18446744073709551615

abbrev pub place_of : ℕ → ℕ → ℕ
place_of place by = min (place + by) most_place

-- ---- how far the import is in the text

-- how far the text is read; the line buffer; the output, and how far it is written
pub record ImportState : Type 0 where
  pub at : ℕ
  pub line : List ℕ
  pub out : List ℕ
  pub used : ℕ

abbrev pub import_state : ℕ → List ℕ → List ℕ → ℕ → ImportState
import_state at l o u = record { at = at; line = l; out = o; used = u }

-- the next record: written, as a line or as a refusal; cut by the end of the text, and nothing is written; or refused so that the import ends
pub data TakesRecord (N : Naming) (ends : Bool) (o : ℕ) (b : List ℕ) (s : ImportState) : List ℕ → List ℕ → Taken → Type 0 where
  entry : {l t : List ℕ} {k n : ℕ} → Scans ends (drop s.at b) s.line l (Entry k n) → HeldLine N l k t
      → TakesRecord N ends o b s l (put s.out s.used t) (Taken.Written (s.at + n) (s.used + length t))
  miscounted : {l t : List ℕ} {n : ℕ} → Scans ends (drop s.at b) s.line l (Miscounted n) → LineOut (Err (refusal 27 (place_of o s.at) (pos 0))) t
      → TakesRecord N ends o b s l (put s.out s.used t) (Taken.Written (s.at + n) (s.used + length t))
  stops : {l t : List ℕ} {n p : ℕ} → Scans ends (drop s.at b) s.line l (Stops n p) → LineOut (Err (refusal n (place_of (place_of o s.at) p) (pos 0))) t
      → TakesRecord N ends o b s l (put s.out s.used t) (Taken.Ended (s.used + length t))
  cut : {l : List ℕ} → Scans ends (drop s.at b) s.line l Undecided → TakesRecord N ends o b s l s.out Taken.Cut

-- record after record, as long as the text has bytes and the output has room for the longest line; why it stops
pub data Imports (N : Naming) (ends : Bool) (o : ℕ) (b : List ℕ) : ImportState → ImportState → Stopped → Type 0 where
  spent : {s : ImportState} → length b ≤ s.at → Imports N ends o b s s Stopped.Spent
  full : {s : ImportState} → s.at < length b → length s.out < s.used + longest_line → Imports N ends o b s s Stopped.Full
  cut : {s : ImportState} {l x : List ℕ} → s.at < length b → s.used + longest_line ≤ length s.out → TakesRecord N ends o b s l x Taken.Cut → Imports N ends o b s (import_state s.at l x s.used) Stopped.Spent
  ended : {s : ImportState} {l x : List ℕ} {u : ℕ} → s.at < length b → s.used + longest_line ≤ length s.out → TakesRecord N ends o b s l x (Taken.Ended u) → Imports N ends o b s (import_state s.at l x u) Stopped.Ended
  goes_on : {s e : ImportState} {l x : List ℕ} {i u : ℕ} {w : Stopped} → s.at < length b → s.used + longest_line ≤ length s.out → TakesRecord N ends o b s l x (Taken.Written i u) → Imports N ends o b (import_state i l x u) e w → Imports N ends o b s e w

-- how far a call came, and why no further
abbrev pub progress_of : ℕ → ℕ → Stopped → Progress
progress_of at u w = record { at = at; used = u; stopped = w }
