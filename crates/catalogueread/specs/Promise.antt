-- What is promised of a catalogue that is read in blocks, over any contents of the lent memory m, any count n of lines, and any line buffer l with
-- any count h of bytes in it.
-- Assumes nothing.
use Rattle.std.specs.Prelude.{ℕ, ◌+◌, ◌≤◌, ◌<◌, List, length, take, pos, Result, Ok, Err}
use Rattle.refusals.specs.declared.Refusal.{Refusal}
use Rattle.refusals.specs.Promise.{refusal}
use Rattle.textlines.specs.Lines.{longest_read}
use Rattle.textlines.specs.Promise.{TakesRest, TakesLine}
use Rattle.nametable.specs.Limits.{most_lines}
use Rattle.nametable.specs.declared.Names.{Names}
use Rattle.catalogue.specs.Promise.{Adds}
use Rattle.catalogueread.specs.declared.Progress.{Progress}

-- 16: a count of more lines than there can be is made up
abbrev pub made_up_value : Result ℕ Refusal
made_up_value = Err (refusal 16 0 (pos 0))

-- ---- the line that is held has ended: what its bytes come to, or 22 where it is too long

pub data AddsHeld (m : Names) (n : ℕ) (l : List ℕ) (h : ℕ) : Names → Result ℕ Refusal → Type 0 where
  no_count : most_lines < n → AddsHeld m n l h m made_up_value
  short : {m' : Names} {a : Result ℕ Refusal} → n ≤ most_lines → h ≤ longest_read → Adds m n (take h l) m' a → AddsHeld m n l h m' a
  long : n ≤ most_lines → longest_read < h → AddsHeld m n l h m (Err (refusal 22 (n + 1) (pos 0)))

-- ---- how far a block is read: the offset, the memory with its lines, the line buffer with its bytes; or where reading has stopped

pub record ReadState : Type 0 where
  pub at : ℕ
  pub held_in : Names
  pub lines : ℕ
  pub line : List ℕ
  pub held : ℕ

abbrev pub read_state : ℕ → Names → ℕ → List ℕ → ℕ → ReadState
read_state at m n l h = record { at = at; held_in = m; lines = n; line = l; held = h }

pub data Reached : Type 0 where
  going : ReadState → Reached
  stopped : Names → List ℕ → Refusal → Reached

abbrev pub reached : Result Progress Refusal → Names → List ℕ → Reached
reached (Ok p) m l = going (read_state p.at m p.lines l p.held)
reached (Err f) m l = stopped m l f

-- one line more, or the rest of the block where its last line goes on in the next one
pub data ReadsNext (b : List ℕ) (s : ReadState) : Reached → Type 0 where
  rest : {at h : ℕ} {l : List ℕ} → TakesRest b s.at s.line s.held at l h → ReadsNext b s (going (read_state at s.held_in s.lines l h))
  line : {at h n : ℕ} {l : List ℕ} {m : Names} → TakesLine b s.at s.line s.held at l h → AddsHeld s.held_in s.lines l h m (Ok n) → ReadsNext b s (going (read_state at m n l 0))
  refused : {at h : ℕ} {l : List ℕ} {m : Names} {f : Refusal} → TakesLine b s.at s.line s.held at l h → AddsHeld s.held_in s.lines l h m (Err f) → ReadsNext b s (stopped m l f)

-- line after line, as long as the block has bytes, up to the first that is refused
pub data ReadsBlock (b : List ℕ) : ReadState → Reached → Type 0 where
  block_ends : {s : ReadState} → length b ≤ s.at → ReadsBlock b s (going s)
  goes_on : {s t : ReadState} {e : Reached} → s.at < length b → ReadsNext b s (going t) → ReadsBlock b t e → ReadsBlock b s e
  stops : {s : ReadState} {m : Names} {l : List ℕ} {f : Refusal} → s.at < length b → ReadsNext b s (stopped m l f) → ReadsBlock b s (stopped m l f)

-- ---- the end of the file: the last line, which needs no newline; none where nothing is held

pub data ReadsLast (m : Names) (n : ℕ) (l : List ℕ) : ℕ → Names → Result ℕ Refusal → Type 0 where
  one_more : {h : ℕ} {m' : Names} {a : Result ℕ Refusal} → 0 < h → AddsHeld m n l h m' a → ReadsLast m n l h m' a
  no_count : most_lines < n → ReadsLast m n l 0 m made_up_value
  no_more : n ≤ most_lines → ReadsLast m n l 0 m (Ok n)
