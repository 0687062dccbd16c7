-- What is promised of the line that is held from one block of input to the next, and of a block. What is written for a line is said in `Lines`.
-- The answer to each name is given: N.
-- Assumes nothing.
use Rattle.std.specs.Prelude.{ℕ, ◌+◌, ◌≤◌, ◌<◌, List, [], length, take, pos, Result, Err}
use Rattle.calendar.specs.Promise.{refusal}
use Rattle.writer.specs.Promise.{put}
use Rattle.entry.specs.Entry.{longest_entry}
use Rattle.entry.specs.Promise.{Naming, LineAnswer}
use Rattle.linetext.specs.Line.{longest_line}
use Rattle.linetext.specs.Promise.{LineOut}
use Rattle.columns.specs.Columns.{line_of}
use Rattle.textlines.specs.Promise.{TakesRest, TakesLine}
use Rattle.refusals.specs.declared.Refusal.{Refusal}
use Rattle.calendar.specs.declared.Date.{Date}
use Rattle.linetext.specs.declared.LineNumbers.{LineNumbers}

-- ---- the line that is held in the line buffer l: n bytes of it stand there, or it is too long, and n is above `longest_entry` (`Promise` of the
-- crate `textlines`)

-- the answer to the line, when it is finished
pub data HeldAnswer (N : Naming) (l : List ℕ) (n : ℕ) : Result Date Refusal → Type 0 where
  short : {a : Result Date Refusal} → n ≤ longest_entry → LineAnswer N (take n l) a → HeldAnswer N l n a
  long : longest_entry < n → HeldAnswer N l n (Err (refusal 20 (pos 0)))

-- the line of the listing for that answer
pub data HeldAs (N : Naming) (l : List ℕ) (n : ℕ) : Result LineNumbers Refusal → Type 0 where
  held_as : {a : Result Date Refusal} → HeldAnswer N l n a → HeldAs N l n (line_of a)

-- and what is written for it
pub data HeldLine (N : Naming) (l : List ℕ) (n : ℕ) : List ℕ → Type 0 where
  held_line : {a : Result Date Refusal} {t : List ℕ} → HeldAnswer N l n a → LineOut (line_of a) t → HeldLine N l n t

-- the last line, which needs no newline; none where nothing is held
pub data LastLine (N : Naming) (l : List ℕ) : ℕ → List ℕ → Type 0 where
  no_more : LastLine N l 0 []
  one_more : {n : ℕ} {t : List ℕ} → 0 < n → HeldLine N l n t → LastLine N l n t

-- ---- a block, from an offset on: how far the listing is in it

-- how far the block is read; the line buffer, and how many bytes of a line are held in it; the output, and how far it is written
pub record BlockState : Type 0 where
  pub at : ℕ
  pub line : List ℕ
  pub held : ℕ
  pub out : List ℕ
  pub used : ℕ

abbrev pub block_state : ℕ → List ℕ → ℕ → List ℕ → ℕ → BlockState
block_state at l n o u = record { at = at; line = l; held = n; out = o; used = u }

-- one line more, or the rest of the block where its last line goes on in the next one
pub data NextLine (N : Naming) (b : List ℕ) (s : BlockState) : BlockState → Type 0 where
  rest : {at n : ℕ} {l : List ℕ} → TakesRest b s.at s.line s.held at l n → NextLine N b s (block_state at l n s.out s.used)
  line : {at n : ℕ} {l t : List ℕ} → TakesLine b s.at s.line s.held at l n → HeldLine N l n t → length t ≤ longest_line
      → NextLine N b s (block_state at l 0 (put s.out s.used t) (s.used + length t))

-- line after line, as long as the block has bytes and the output has room for the longest line
pub data Lists (N : Naming) (b : List ℕ) : BlockState → BlockState → Type 0 where
  block_ends : {s : BlockState} → length b ≤ s.at → Lists N b s s
  out_of_room : {s : BlockState} → length s.out < s.used + longest_line → Lists N b s s
  goes_on : {s t e : BlockState} → s.at < length b → s.used + longest_line ≤ length s.out → NextLine N b s t → Lists N b t e → Lists N b s e
