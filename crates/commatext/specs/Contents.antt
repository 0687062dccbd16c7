-- What a text comes to, whatever its bytes are, as the request M-101 has it: its records, from left to right, up to its end or to its first fault.
-- A fault is said by the grammar: the bytes before it begin a record, and what stands there does not go on in it. Nothing here reads.
use Rattle.std.specs.Prelude.{ℕ, ◌+◌, ◌≤◌, ◌<◌, ◌≡◌, Bool, true, List, [], ◌∷◌, ◌++◌, length}
use Rattle.whole.specs.Text.{newline}
use Rattle.commatext.specs.Grammar.{comma, quote, return, TextData, QuotedByte, NonEscaped, Quoted, Field, Record, LineEnd, longest_record}

-- ---- the beginning of a record

-- where it ends: where a field begins; in a field that is not quoted; inside the quotes of a field that begins at an offset; after such a field's
-- closing quote, which may turn out to be the first of a doubled one
pub data Where : Type 0 where
  fresh : Where
  text : Where
  inside : ℕ → Where
  closed : ℕ → Where

-- fields, each with the comma after it
pub data Fields : List ℕ → List (List ℕ) → Type 0 where
  none : Fields [] []
  more : {l f m : List ℕ} {fs : List (List ℕ)} → Field l f → Fields m fs → Fields (l ++ (comma ∷ m)) (f ∷ fs)

-- fields, and then what is there of one more, which holds f so far
pub data Begun : List ℕ → Where → List (List ℕ) → List ℕ → Type 0 where
  fresh : {l : List ℕ} {fs : List (List ℕ)} → Fields l fs → Begun l Where.fresh fs []
  text : {l m : List ℕ} {fs : List (List ℕ)} → Fields l fs → NonEscaped m → 0 < length m → Begun (l ++ m) Where.text fs m
  inside : {l m f : List ℕ} {fs : List (List ℕ)} → Fields l fs → Quoted m f → Begun (l ++ (quote ∷ m)) (Where.inside (length l)) fs f
  closed : {l m f : List ℕ} {fs : List (List ℕ)} → Fields l fs → Quoted m f → Begun (l ++ (quote ∷ (m ++ (quote ∷ [])))) (Where.closed (length l)) fs f

-- a record may end there
pub data Outside : Where → Type 0 where
  fresh : Outside Where.fresh
  text : Outside Where.text
  closed : {o : ℕ} → Outside (Where.closed o)

-- ---- faults

-- A byte stands there, and no line end. `ends` tells whether the text ends after these bytes; where it may go on, a last CR decides nothing.
pub data NoLineEnd (ends : Bool) : List ℕ → Type 0 where
  other : {b : ℕ} {s : List ℕ} → (b ≡ newline → ⊥) → (b ≡ return → ⊥) → NoLineEnd ends (b ∷ s)
  bare_return : {b : ℕ} {s : List ℕ} → (b ≡ newline → ⊥) → NoLineEnd ends (return ∷ b ∷ s)
  last_return : ends ≡ true → NoLineEnd ends (return ∷ [])

-- the bytes s stand after the beginning of a record of k bytes that ends at w: the number of the fault, and its offset in the record
pub data Faulty (ends : Bool) : Where → ℕ → List ℕ → ℕ → ℕ → Type 0 where
  -- 20: the 513th byte
  long : {w : Where} {s : List ℕ} → Outside w → NoLineEnd ends s → Faulty ends w longest_record s 20 longest_record
  long_inside : {o b : ℕ} {s : List ℕ} → Faulty ends (Where.inside o) longest_record (b ∷ s) 20 longest_record
  -- 26: after a closing quote, not a comma or a line end, nor the other quote of a doubled one
  after_quote : {o k b : ℕ} {s : List ℕ} → k < longest_record → NoLineEnd ends (b ∷ s) → (b ≡ comma → ⊥) → (b ≡ quote → ⊥) → Faulty ends (Where.closed o) k (b ∷ s) 26 k
  -- 35: another byte that the grammar does not allow there
  in_fresh : {k b : ℕ} {s : List ℕ} → k < longest_record → NoLineEnd ends (b ∷ s) → (b ≡ comma → ⊥) → (b ≡ quote → ⊥) → (TextData b → ⊥) → Faulty ends Where.fresh k (b ∷ s) 35 k
  in_text : {k b : ℕ} {s : List ℕ} → k < longest_record → NoLineEnd ends (b ∷ s) → (b ≡ comma → ⊥) → (TextData b → ⊥) → Faulty ends Where.text k (b ∷ s) 35 k
  in_quotes : {o k b : ℕ} {s : List ℕ} → k < longest_record → (b ≡ quote → ⊥) → (QuotedByte b → ⊥) → Faulty ends (Where.inside o) k (b ∷ s) 35 k
  -- 25: the text ends inside quotes, which opened at o
  unclosed : {o k : ℕ} → ends ≡ true → k ≤ longest_record → Faulty ends (Where.inside o) k [] 25 o

-- ---- the whole text

-- of a record: its two fields, or a refusal, with its number and its place in the file
pub data Outcome : Type 0 where
  entry : List ℕ → List ℕ → Outcome
  refused : ℕ → ℕ → Outcome

-- 27: another number of fields, at the record's beginning o
abbrev pub outcome_of : ℕ → List (List ℕ) → Outcome
outcome_of o [] = refused 27 o
outcome_of o (f ∷ []) = refused 27 o
outcome_of o (f ∷ g ∷ []) = entry f g
outcome_of o (f ∷ g ∷ h ∷ fs) = refused 27 o

-- the text s, which stands at the offset o of the file
pub data Reads : ℕ → List ℕ → List Outcome → Type 0 where
  none : {o : ℕ} → Reads o [] []
  last : {o : ℕ} {l : List ℕ} {fs : List (List ℕ)} → Record l fs → 0 < length l → length l ≤ longest_record → Reads o l (outcome_of o fs ∷ [])
  more : {o : ℕ} {l e s : List ℕ} {fs : List (List ℕ)} {rs : List Outcome} → Record l fs → length l ≤ longest_record → LineEnd e → Reads (o + (length l + length e)) s rs → Reads o (l ++ (e ++ s)) (outcome_of o fs ∷ rs)
  stops : {o : ℕ} {l s : List ℕ} {w : Where} {fs : List (List ℕ)} {f : List ℕ} {n p : ℕ} → Begun l w fs f → Faulty true w (length l) s n p → Reads o (l ++ s) (refused n (o + p) ∷ [])
