-- Comma-separated text, rule by rule as RFC 4180 has it, with what each field holds once it is unquoted. A bare line feed is taken as a line end too,
-- and a file has two fields a record. A byte is any number below 256. Nothing here reads.
use Rattle.std.specs.Prelude.{ℕ, ◌≤◌, ◌≡◌, List, [], ◌∷◌, ◌++◌, length}
use Rattle.whole.specs.Text.{newline}

-- ---- bytes with a meaning

abbrev pub comma : ℕ
comma = 44

-- DQUOTE
abbrev pub quote : ℕ
quote = 34

-- CR; LF is `newline`
abbrev pub return : ℕ
return = 13

-- TEXTDATA = %x20-21 / %x23-2B / %x2D-7E
pub data TextData (b : ℕ) : Type 0 where
  from_20 : 32 ≤ b → b ≤ 33 → TextData b
  from_23 : 35 ≤ b → b ≤ 43 → TextData b
  from_2_d : 45 ≤ b → b ≤ 126 → TextData b

-- TEXTDATA / COMMA / CR / LF
pub data QuotedByte (b : ℕ) : Type 0 where
  text : TextData b → QuotedByte b
  a_comma : b ≡ comma → QuotedByte b
  a_return : b ≡ return → QuotedByte b
  a_feed : b ≡ newline → QuotedByte b

-- ---- fields: the bytes of one, and what it holds

-- non-escaped = *TEXTDATA
pub data NonEscaped : List ℕ → Type 0 where
  none : NonEscaped []
  more : {b : ℕ} {l : List ℕ} → TextData b → NonEscaped l → NonEscaped (b ∷ l)

-- *(TEXTDATA / COMMA / CR / LF / 2DQUOTE): of a doubled quote one is held
pub data Quoted : List ℕ → List ℕ → Type 0 where
  none : Quoted [] []
  byte : {b : ℕ} {l f : List ℕ} → QuotedByte b → Quoted l f → Quoted (b ∷ l) (b ∷ f)
  twice : {l f : List ℕ} → Quoted l f → Quoted (quote ∷ quote ∷ l) (quote ∷ f)

-- escaped = DQUOTE *(TEXTDATA / COMMA / CR / LF / 2DQUOTE) DQUOTE; field = (escaped / non-escaped)
pub data Field : List ℕ → List ℕ → Type 0 where
  escaped : {l f : List ℕ} → Quoted l f → Field (quote ∷ (l ++ (quote ∷ []))) f
  non_escaped : {l : List ℕ} → NonEscaped l → Field l l

-- ---- records, and the file

-- record = field *(COMMA field)
pub data Record : List ℕ → List (List ℕ) → Type 0 where
  last : {l f : List ℕ} → Field l f → Record l (f ∷ [])
  more : {l f m : List ℕ} {fs : List (List ℕ)} → Field l f → Record m fs → Record (l ++ (comma ∷ m)) (f ∷ fs)

-- the bytes of the longest record that is read, its line end not counted
abbrev pub longest_record : ℕ
longest_record = 512

-- CRLF, or a bare LF
pub data LineEnd : List ℕ → Type 0 where
  return_feed : LineEnd (return ∷ newline ∷ [])
  feed : LineEnd (newline ∷ [])

-- a record of two fields, as they are unquoted
pub data Pair : Type 0 where
  pair : List ℕ → List ℕ → Pair

-- file = record *(CRLF record) [CRLF], each record of two fields and at most `longest_record` bytes
pub data File : List ℕ → List Pair → Type 0 where
  last : {l f g : List ℕ} → Record l (f ∷ g ∷ []) → length l ≤ longest_record → File l (pair f g ∷ [])
  closed : {l f g e : List ℕ} → Record l (f ∷ g ∷ []) → length l ≤ longest_record → LineEnd e → File (l ++ e) (pair f g ∷ [])
  more : {l f g e s : List ℕ} {ps : List Pair} → Record l (f ∷ g ∷ []) → length l ≤ longest_record → LineEnd e → File s ps → File (l ++ (e ++ s)) (pair f g ∷ ps)
