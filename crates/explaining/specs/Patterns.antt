-- A sentence is written by a pattern: `#` stands for the next of some whole numbers, `@` for the name of the calendar, `~` for the date text, and every
-- other byte for itself.
use Rattle.std.specs.Prelude.{ℕ, ◌+◌, ◌≡◌, cond, List, [], ◌∷◌, ◌++◌, leb, eqb, ℤ}
use Rattle.writer.specs.Promise.{WholeDecimal}

-- a byte outside 32 to 126 is shown as `?`
abbrev pub shown_byte_value : ℕ → ℕ
shown_byte_value b = cond (leb 32 b) (cond (leb b 126) b 63) 63

unfoldable pub shown : List ℕ → List ℕ
shown [] = []
shown (b ∷ s) = shown_byte_value b ∷ shown s

-- `#`, `@` and `~`
abbrev pub number_mark : ℕ
number_mark = 35

abbrev pub name_mark : ℕ
name_mark = 64

abbrev pub text_mark : ℕ
text_mark = 126

-- The pattern filled with the numbers, the name and the text. Numbers may be left over; where none is left, nothing is written.
pub data Filled (name text : List ℕ) : List ℕ → List ℤ → List ℕ → Type 0 where
  end : {ns : List ℤ} → Filled name text [] ns []
  number : {x : ℤ} {p u t : List ℕ} {ns : List ℤ} → WholeDecimal u x → Filled name text p ns t → Filled name text (number_mark ∷ p) (x ∷ ns) (u ++ t)
  no_number : {p t : List ℕ} → Filled name text p [] t → Filled name text (number_mark ∷ p) [] t
  the_name : {p t : List ℕ} {ns : List ℤ} → Filled name text p ns t → Filled name text (name_mark ∷ p) ns (shown name ++ t)
  the_text : {p t : List ℕ} {ns : List ℤ} → Filled name text p ns t → Filled name text (text_mark ∷ p) ns (shown text ++ t)
  itself : {b : ℕ} {p t : List ℕ} {ns : List ℤ} → ¬ (b ≡ number_mark) → ¬ (b ≡ name_mark) → ¬ (b ≡ text_mark) → Filled name text p ns t → Filled name text (b ∷ p) ns (b ∷ t)

-- How many bytes that takes at most, for a name of n bytes and a text of m. A number has at most 20 digits and a sign.
abbrev pub cost_of : ℕ → ℕ → ℕ → ℕ
cost_of n m b = cond (eqb b number_mark) 21 (cond (eqb b name_mark) n (cond (eqb b text_mark) m 1))

unfoldable pub cost : ℕ → ℕ → List ℕ → ℕ
cost n m [] = 0
cost n m (b ∷ p) = cost_of n m b + cost n m p
