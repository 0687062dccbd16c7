-- What is promised of the record at the front of some bytes. `ends` tells whether the text ends after them, or may go on.
use Rattle.std.specs.Prelude.{ℕ, ◌+◌, ◌≤◌, ◌≡◌, Bool, true, false, List, [], ◌∷◌, ◌++◌, length}
use Rattle.whole.specs.Text.{tab}
use Rattle.writer.specs.Promise.{put}
use Rattle.commatext.specs.declared.Scan.{Scan}
use Rattle.commatext.specs.Grammar.{return, Record, LineEnd, longest_record}
use Rattle.commatext.specs.Contents.{Where, Begun, Outside, Faulty}

-- the record l stands at the front of s, and ends there: n bytes are taken, its line end with it
pub data Closes (ends : Bool) (l s : List ℕ) (n : ℕ) : Type 0 where
  line_end : {e : List ℕ} (r : List ℕ) → LineEnd e → s ≡ l ++ (e ++ r) → n ≡ length l + length e → Closes ends l s n
  text_ends : ends ≡ true → s ≡ l → n ≡ length l → Closes ends l s n

-- s is the beginning of a record, and what follows decides how it goes on
pub data Open : List ℕ → Type 0 where
  begun : {l : List ℕ} {w : Where} {fs : List (List ℕ)} {f : List ℕ} → Begun l w fs f → length l ≤ longest_record → Open l
  returned : {l : List ℕ} {w : Where} {fs : List (List ℕ)} {f : List ℕ} → Begun l w fs f → Outside w → length l ≤ longest_record → Open (l ++ (return ∷ []))

-- two fields as a line of a register
abbrev pub line_of : List ℕ → List ℕ → List ℕ
line_of f g = f ++ (tab ∷ g)

-- a record of two fields, put at the front of the line buffer b as a line; one with another number of fields; a fault; or nothing yet
pub data Scans (ends : Bool) (s b : List ℕ) : List ℕ → Scan → Type 0 where
  entry : {l f g : List ℕ} {n : ℕ} → Record l (f ∷ g ∷ []) → length l ≤ longest_record → Closes ends l s n → Scans ends s b (put b 0 (line_of f g)) (Scan.Entry (length (line_of f g)) n)
  miscounted : {l : List ℕ} {fs : List (List ℕ)} {n : ℕ} → Record l fs → (length fs ≡ 2 → ⊥) → length l ≤ longest_record → Closes ends l s n → Scans ends s b b (Scan.Miscounted n)
  stops : {l r : List ℕ} {w : Where} {fs : List (List ℕ)} {f : List ℕ} {n p : ℕ} → s ≡ l ++ r → Begun l w fs f → Faulty ends w (length l) r n p → Scans ends s b b (Scan.Stops n p)
  undecided : ends ≡ false → Open s → Scans ends s b b Scan.Undecided
