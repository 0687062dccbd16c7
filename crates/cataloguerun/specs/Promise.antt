-- What is promised of a program's catalogue: how it is read, block by block, and what is said of it on standard error.
-- Assumes nothing.
use Rattle.std.specs.Prelude.{ℕ, ◌≡◌, Bool, true, false, cond, List, ◌++◌, eqb, length, take, Ok, Err}
use Rattle.whole.specs.Text.{bytes}
use Rattle.writer.specs.Promise.{put, Decimal}
use Rattle.refusals.specs.declared.Refusal.{Refusal}
use Rattle.filter.specs.declared.Event.{Event}
use Rattle.filter.specs.declared.Event.TheVariants as Event'
use Rattle.filter.specs.declared.Phase.TheVariants.{Failing, Ended}
use Rattle.filter.specs.declared.State.{State}
use Rattle.filter.specs.Promise.{state_with_value, PutsMessage}
use Rattle.nametable.specs.declared.Names.{Names}
use Rattle.catalogueread.specs.Promise.{ReadState, read_state, going, stopped, ReadsBlock, ReadsLast}
use Rattle.cataloguerun.specs.declared.Opened.{Opened}
use Rattle.cataloguerun.specs.declared.Opened.TheVariants.{Open, Missing, Failed}
use Rattle.cataloguerun.specs.declared.CatalogueRun.{CatalogueRun}
use Rattle.cataloguerun.specs.declared.CatalogueRun.TheVariants.{Reading, Ready, Refused, Unread}

-- ---- Reading it

-- a file that is missing counts as empty; one that could not be opened is told
abbrev pub start_of : Opened → CatalogueRun
start_of Open = Reading 0 0
start_of Missing = Ready
start_of Failed = Unread

abbrev pub reads_on_value : CatalogueRun → Bool
reads_on_value (Reading n h) = true
reads_on_value Ready = false
reads_on_value (Refused f) = false
reads_on_value Unread = false

-- the first k bytes of the block b, from an offset on, where the memory m holds n lines and h bytes of a line stand in l
pub data Advances (b : List ℕ) (from k : ℕ) (m : Names) (n : ℕ) (l : List ℕ) (h : ℕ) : Names → List ℕ → CatalogueRun → Type 0 where
  reads : {s : ReadState} → ReadsBlock (take k b) (read_state from m n l h) (going s) → Advances b from k m n l h s.held_in s.line (Reading s.lines s.held)
  refuses : {m' : Names} {l' : List ℕ} {f : Refusal} → ReadsBlock (take k b) (read_state from m n l h) (stopped m' l' f) → Advances b from k m n l h m' l' (Refused f)

-- the end of the file
pub data Closes (m : Names) (n : ℕ) (l : List ℕ) (h : ℕ) : Names → CatalogueRun → Type 0 where
  closes : {m' : Names} {k : ℕ} → ReadsLast m n l h m' (Ok k) → Closes m n l h m' Ready
  refuses : {m' : Names} {f : Refusal} → ReadsLast m n l h m' (Err f) → Closes m n l h m' (Refused f)

-- by what a read came to; what is read no further stays as it is
pub data GoesOn (b : List ℕ) (m : Names) (l : List ℕ) : CatalogueRun → Event → Names → List ℕ → CatalogueRun → Type 0 where
  some : {n h from k : ℕ} {m' : Names} {l' : List ℕ} {r : CatalogueRun} → Advances b from k m n l h m' l' r → GoesOn b m l (Reading n h) (Event'.Block from k) m' l' r
  no_more : {n h : ℕ} {m' : Names} {r : CatalogueRun} → Closes m n l h m' r → GoesOn b m l (Reading n h) Event'.InputEnds m' l r
  failed : {n h : ℕ} → GoesOn b m l (Reading n h) Event'.Unread m l Unread
  unwritten : {n h : ℕ} → GoesOn b m l (Reading n h) Event'.Unwritten m l (Reading n h)
  finished : {n h : ℕ} → GoesOn b m l (Reading n h) Event'.Finished m l (Reading n h)
  over : {r : CatalogueRun} {e : Event} → reads_on_value r ≡ false → GoesOn b m l r e m l r

-- ---- What is said of it

unfoldable pub unread : List ℕ
unread = bytes "catalogue: the file could not be read; it is not used\n"

unfoldable pub refused_at : List ℕ
refused_at = bytes "catalogue: refused at line "

-- a refusal in words
unfoldable pub words_of : ℕ → List ℕ
words_of n =
    cond (eqb n 22) (bytes ": not a name, a tab and a day number (22)\n")
    (cond (eqb n 11) (bytes ": the day number is above 2147483647 (11)\n")
    (cond (eqb n 28) (bytes ": the day number is below -2147483648 (28)\n")
    (cond (eqb n 23) (bytes ": the name is taken (23)\n")
    (cond (eqb n 24) (bytes ": there are too many lines (24)\n")
    (cond (eqb n 1) (bytes ": no calendar can switch on that day (1)\n")
    (cond (eqb n 2) (bytes ": the dates around that day do not fit 32 bits (2)\n")
    (bytes ": the state was made up (16)\n")))))))

-- the message for a refusal with this number at this line
pub data Reason (number place : ℕ) : List ℕ → Type 0 where
  reason : {d : List ℕ} → Decimal d place → Reason number place (refused_at ++ (d ++ words_of number))

-- it stands at the front of the output, and i is its length
pub data Reasons (number place : ℕ) (o : List ℕ) : List ℕ → ℕ → Type 0 where
  reasons : {t : List ℕ} → Reason number place t → Reasons number place o (put o 0 t) (length t)

-- a catalogue that is refused or cannot be read is told; of any other nothing is said
pub data Complains (o : List ℕ) : CatalogueRun → List ℕ → State → Type 0 where
  nothing_yet : {n h : ℕ} → Complains o (Reading n h) o (state_with_value Ended 0)
  nothing : Complains o Ready o (state_with_value Ended 0)
  tells : {f : Refusal} {o' : List ℕ} {k : ℕ} → Reasons f.number f.place o o' k → Complains o (Refused f) o' (state_with_value Failing k)
  cannot_read : {o' : List ℕ} {s : State} → PutsMessage unread o o' s → Complains o Unread o' s
