-- What is promised of a turn: which line has ended, and where the program is then; and what a program that answers each line by itself does then.
-- Assumes nothing.
use Rattle.std.specs.Prelude.{ℕ, zero, suc, ◌≤◌, ◌<◌, List, [], ◌∷◌, ◌++◌, length, take}
use Rattle.writer.specs.Promise.{put}
use Rattle.textlines.specs.Lines.{Lines, longest_read}
use Rattle.textlines.specs.Promise.{TakesRest, TakesLine}
use Rattle.filter.specs.declared.Phase.{Phase}
use Rattle.filter.specs.declared.Phase.TheVariants.{Reading, Midway, Closing, Ended}
use Rattle.filter.specs.declared.Event.{Event}
use Rattle.filter.specs.declared.Event.TheVariants as Event'
use Rattle.filter.specs.declared.State.{State}
use Rattle.filter.specs.Promise.{state_with_value, PutsMessage}
use Rattle.linerun.specs.declared.Turn.{Turn}
use Rattle.linerun.specs.declared.Turn.TheVariants.{Line, Nothing, Unread, Unwritten}

-- ---- a state

-- n bytes of the block are there and are used up to `at`, and h bytes of a line are held; nothing is to be written
abbrev pub state_at_value : Phase → ℕ → ℕ → ℕ → State
state_at_value p at n h = record { phase = p; at = at; count = n; held = h; used = 0 }

-- so many bytes are to be written
abbrev pub with_output_value : State → ℕ → State
with_output_value s u = record { phase = s.phase; at = s.at; count = s.count; held = s.held; used = u }

-- ---- a turn

-- a line of k bytes has ended before `at`, in a block of n bytes, which is then used up or not
pub data EndsAt (k at n : ℕ) : Turn → Type 0 where
  within : at < n → EndsAt k at n (Line k (state_at_value Midway at n 0))
  used_up : n ≤ at → EndsAt k at n (Line k (state_at_value Reading at n 0))

-- Of the bytes x of a block of n bytes, from an offset on, the line has those up to a newline, or all. h bytes of it were held before them in l.
pub data TakesNext (x l : List ℕ) (from n h : ℕ) : List ℕ → Turn → Type 0 where
  line : {at k : ℕ} {l' : List ℕ} {r : Turn} → TakesLine x from l h at l' k → EndsAt k at n r → TakesNext x l from n h l' r
  rest : {at k : ℕ} {l' : List ℕ} → TakesRest x from l h at l' k → TakesNext x l from n h l' (Nothing (state_at_value Reading at n k))

-- the bytes are the first n of b; where none are left, the next block is read
pub data Advances (b l : List ℕ) (from n h : ℕ) : List ℕ → Turn → Type 0 where
  takes : {l' : List ℕ} {r : Turn} → from < length (take n b) → TakesNext (take n b) l from n h l' r → Advances b l from n h l' r
  none_left : length (take n b) ≤ from → Advances b l from n h l (Nothing (state_at_value Reading from n h))

-- where h bytes are held at the end of the input they are its last line, unless there are none
abbrev pub last_of : ℕ → Turn
last_of zero = Nothing (state_with_value Closing 0)
last_of (suc h) = Line (suc h) (state_with_value Closing 0)

-- A turn with the block b and the line buffer l, by what has happened.
pub data NextTurn (b l : List ℕ) (s : State) : Event → List ℕ → Turn → Type 0 where
  works_on : {from n : ℕ} {l' : List ℕ} {r : Turn} → Advances b l from n s.held l' r → NextTurn b l s (Event'.Block from n) l' r
  last_line : NextTurn b l s Event'.InputEnds l (last_of s.held)
  cannot_read : NextTurn b l s Event'.Unread l Unread
  cannot_write : NextTurn b l s Event'.Unwritten l Unwritten
  ends : NextTurn b l s Event'.Finished l (Nothing (state_with_value Ended 0))

-- ---- a program that answers each line by itself: Out p t says that t is what is written for the line p

-- t is what is written for the line that is held in l: n bytes of it stand there, or it is too long, and what is written does not depend on its bytes
pub data HeldOut (Out : List ℕ → List ℕ → Type 0) (l : List ℕ) (n : ℕ) (t : List ℕ) : Type 0 where
  short : n ≤ longest_read → Out (take n l) t → HeldOut Out l n t
  long : longest_read < n → ((p : List ℕ) → longest_read < length p → Out p t) → HeldOut Out l n t

-- What it does by what the turn came to, with the line buffer l and the output o: the answer to the line stands at the front of the output, or nothing
-- does; or one of the two messages.
pub data Answers (Out : List ℕ → List ℕ → Type 0) (unread unwritten l o : List ℕ) : Turn → List ℕ → State → Type 0 where
  answer : {n : ℕ} {s : State} {t : List ℕ} → HeldOut Out l n t → Answers Out unread unwritten l o (Line n s) (put o 0 t) (with_output_value s (length t))
  no_answer : {s : State} → Answers Out unread unwritten l o (Nothing s) o s
  cannot_read : {o' : List ℕ} {s : State} → PutsMessage unread o o' s → Answers Out unread unwritten l o Unread o' s
  cannot_write : {o' : List ℕ} {s : State} → PutsMessage unwritten o o' s → Answers Out unread unwritten l o Unwritten o' s

-- its turn, by what has happened
pub data GoesOn (Out : List ℕ → List ℕ → Type 0) (unread unwritten b l o : List ℕ) (s : State) (e : Event) (l' o' : List ℕ) (s' : State) : Type 0 where
  goes_on : {r : Turn} → NextTurn b l s e l' r → Answers Out unread unwritten l' o r o' s' → GoesOn Out unread unwritten b l o s e l' o' s'

-- what is written for lines one under another
pub data AllOut (Out : List ℕ → List ℕ → Type 0) : List (List ℕ) → List ℕ → Type 0 where
  none : AllOut Out [] []
  next : {l : List ℕ} {ls : List (List ℕ)} {t u : List ℕ} → Out l t → AllOut Out ls u → AllOut Out (l ∷ ls) (t ++ u)

-- and for the lines of an input
pub data LinesOut (Out : List ℕ → List ℕ → Type 0) (input : List ℕ) : List ℕ → Type 0 where
  lines_out : {ls : List (List ℕ)} {t : List ℕ} → Lines input ls → AllOut Out ls t → LinesOut Out input t
