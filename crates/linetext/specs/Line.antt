-- A line of the listing: the numbers of a day and the letters of its style, or the numbers of a refusal, in columns.
use Rattle.std.specs.Prelude.{ℕ, ◌/◌, ◌%◌, List, [], ◌∷◌, ◌++◌, ℤ, pos, Result, Ok, Err}
use Rattle.whole.specs.Text.{tab, newline}
use Rattle.refusals.specs.declared.Refusal.{Refusal}
use Rattle.writer.specs.Promise.{WholeDecimal}
use Rattle.linetext.specs.declared.LineNumbers.{LineNumbers}

-- the mark of a refusal, `!`
abbrev pub mark : ℕ
mark = 33

-- the bytes of the longest line: six columns of at most 20 digits, a sign and the byte after them, two letters and the newline
abbrev pub longest_line : ℕ
longest_line = 135

-- numbers separated by tabs
pub data Columns : List ℤ → List ℕ → Type 0 where
  one : {x : ℤ} {t : List ℕ} → WholeDecimal t x → Columns (x ∷ []) t
  more : {x : ℤ} {xs : List ℤ} {t u : List ℕ} → WholeDecimal t x → Columns xs u → Columns (x ∷ xs) (t ++ (tab ∷ u))

-- two letters, which stand as one number: the first and 256 times the second
abbrev pub letters : ℕ → List ℕ
letters w = w % 256 ∷ (w / 256 % 256 ∷ [])

-- the numbers of a day, and of a refusal
abbrev pub number_columns : LineNumbers → List ℤ
number_columns r = r.jdn ∷ r.year ∷ pos r.ordinal ∷ pos r.month ∷ pos r.day ∷ pos r.weekday ∷ []

abbrev pub refusal_columns : Refusal → List ℤ
refusal_columns f = pos f.number ∷ pos f.place ∷ f.value ∷ []

pub data LineText : Result LineNumbers Refusal → List ℕ → Type 0 where
  of_numbers : {r : LineNumbers} {t : List ℕ} → Columns (number_columns r) t → LineText (Ok r) (t ++ (tab ∷ letters r.style))
  of_refusal : {f : Refusal} {t : List ℕ} → Columns (refusal_columns f) t → LineText (Err f) (mark ∷ (tab ∷ t))

-- with the newline after it
pub data Ended (l : Result LineNumbers Refusal) : List ℕ → Type 0 where
  ended : {t : List ℕ} → LineText l t → Ended l (t ++ (newline ∷ []))
