-- What the private functions say: of a byte, of a run of bytes, of what comes next, and of the two readings, which say what they found in whatever
-- record they were handed.
use Rattle.std.specs.Prelude.{ℕ, zero, suc, ◌+◌, ◌≤◌, ◌<◌, ◌≡◌, Bool, true, false, List, [], ◌∷◌, ◌++◌, length, take, drop, get_or, eqb, Option, Some, None}
use Rattle.digits.specs.Promise.{pick}
use Rattle.writer.specs.Laws.{PutText}
use Rattle.commatext.specs.declared.Found.{Found}
use Rattle.commatext.specs.declared.Next.{Next}
use Rattle.commatext.specs.Grammar.{comma, quote, return, TextData, QuotedByte, NonEscaped, Quoted, Field, Record, LineEnd, longest_record}
use Rattle.commatext.specs.Contents.{Where, Fields, Begun, NoLineEnd, Faulty}
use Rattle.commatext.specs.Promise.{Closes, Open, line_of}

-- ---- bytes that go on in a field, quoted or not

pub data Tells (P : Type 0) : Bool → Type 0 where
  yes : P → Tells P true
  no : (P → ⊥) → Tells P false

abbrev pub Stands : Bool → ℕ → Type 0
Stands true b = QuotedByte b
Stands false b = TextData b

pub data AllStand (quoted : Bool) : List ℕ → Type 0 where
  none : AllStand quoted []
  more : {b : ℕ} {l : List ℕ} → Stands quoted b → AllStand quoted l → AllStand quoted (b ∷ l)

-- from an offset up to i all bytes do
pub record Along (quoted : Bool) (s : List ℕ) (from i : ℕ) : Type 0 where
  pub bytes : List ℕ
  pub is : drop from s ≡ bytes ++ drop i s
  pub all : AllStand quoted bytes
  pub offset : i ≡ from + length bytes
  pub within : i ≤ length s
  pub short : from ≤ longest_record → i ≤ longest_record

-- at i the bytes end, or the record is as long as it may be, or a byte does not
pub data Stopped (quoted : Bool) (i : ℕ) : List ℕ → Type 0 where
  no_more : Stopped quoted i []
  full : {s : List ℕ} → longest_record ≤ i → Stopped quoted i s
  byte : {b : ℕ} {s : List ℕ} → (Stands quoted b → ⊥) → Stopped quoted i (b ∷ s)

pub record Run (quoted : Bool) (s : List ℕ) (from r : ℕ) : Type 0 where
  pub along : Along quoted s from r
  pub stopped : Stopped quoted r (drop r s)

-- a field that was quoted has ended; one that is not has its bytes still to come
pub data FieldEnd (s : List ℕ) (at : ℕ) : Bool → ℕ → Type 0 where
  closed : FieldEnd s at true at
  text : {r : ℕ} → Run false s at r → FieldEnd s at false r

-- ---- what comes next outside quotes: the bytes from an offset on

pub data NextIs (ends : Bool) (at : ℕ) : List ℕ → Next → Type 0 where
  line_end : {e : List ℕ} {n : ℕ} (r : List ℕ) → LineEnd e → n ≡ at + length e → NextIs ends at (e ++ r) (Next.Ends n)
  text_ends : ends ≡ true → NextIs ends at [] (Next.Ends at)
  bytes_end : ends ≡ false → NextIs ends at [] Next.Undecided
  return_ends : ends ≡ false → NextIs ends at (return ∷ []) Next.Undecided
  too_long : {r : List ℕ} → longest_record ≤ at → NoLineEnd ends r → NextIs ends at r Next.TooLong
  a_comma : {r : List ℕ} → at < longest_record → NextIs ends at (comma ∷ r) Next.Comma
  a_quote : {r : List ℕ} → at < longest_record → NextIs ends at (quote ∷ r) Next.Quote
  other : {b : ℕ} {r : List ℕ} → at < longest_record → NoLineEnd ends (b ∷ r) → (b ≡ comma → ⊥) → (b ≡ quote → ⊥) → NextIs ends at (b ∷ r) Next.Other

-- a byte that is no line end and has no other meaning
pub data OtherAt (at : ℕ) : Next → Type 0 where
  long : longest_record ≤ at → OtherAt at Next.TooLong
  short : at < longest_record → OtherAt at Next.Other

-- where a CR stands
abbrev pub AfterReturn : Bool → List ℕ → ℕ → Next → Type 0
AfterReturn ends s at n = get_or s at 0 ≡ return → NextIs ends at (drop at s) n

-- ---- where the two readings stand

-- k fields, each with the comma after it; the first comma stands at c
pub data Parted : List ℕ → ℕ → ℕ → Type 0 where
  none : {c : ℕ} → Parted [] 0 c
  some : {l f m : List ℕ} {fs : List (List ℕ)} → Field l f → Fields m fs → Parted (l ++ (comma ∷ m)) (suc (length fs)) (length l)

-- with one comma more, at e
abbrev pub first_comma_value : ℕ → ℕ → ℕ → ℕ
first_comma_value zero c e = e
first_comma_value (suc k) c e = c

pub record Within (s : List ℕ) (at : ℕ) : Type 0 where
  pub inside : at ≤ length s
  pub short : at ≤ longest_record

-- at the beginning of a field, or after a quote of the field that begins at an offset
pub data OutsideAt (s : List ℕ) (at : ℕ) : Bool → ℕ → ℕ → ℕ → Type 0 where
  fresh : {l : List ℕ} {k c : ℕ} → Within s at → Parted l k c → take at s ≡ l → OutsideAt s at false at k c
  closed : {l m f : List ℕ} {o k c : ℕ} → Within s at → Parted l k c → Quoted m f → take at s ≡ l ++ (quote ∷ (m ++ (quote ∷ []))) → o ≡ length l → OutsideAt s at true o k c

pub data InsideAt (s : List ℕ) (at o k c : ℕ) : Type 0 where
  inside : {l m f : List ℕ} → Within s at → Parted l k c → Quoted m f → take at s ≡ l ++ (quote ∷ m) → o ≡ length l → InsideAt s at o k c

-- ---- what they find

-- two fields, of which F says what they hold, with a comma between them at c, up to e, and then n
pub data PairOf (F : List ℕ → List ℕ → Type 0) (ends : Bool) (s : List ℕ) (c e n : ℕ) : Type 0 where
  pair : {l m f g : List ℕ} → F l f → F m g → c ≡ length l → Within s e → take e s ≡ l ++ (comma ∷ m) → Closes ends (take e s) s n → PairOf F ends s c e n

pub data Finds (ends : Bool) (s : List ℕ) : Found → Type 0 where
  pair : {c e n : ℕ} → PairOf Field ends s c e n → Finds ends s (Found.Pair c e n)
  other : {fs : List (List ℕ)} {e n : ℕ} → Record (take e s) fs → (length fs ≡ 2 → ⊥) → Within s e → Closes ends (take e s) s n → Finds ends s (Found.Other n)
  stops : {e : ℕ} {w : Where} {fs : List (List ℕ)} {f : List ℕ} {n p : ℕ} → Within s e → Begun (take e s) w fs f → Faulty ends w e (drop e s) n p → Finds ends s (Found.Stops n p)
  undecided : ends ≡ false → Open s → Finds ends s Found.Undecided

-- ---- usual fields: text, or text in quotes

pub data UsualField : List ℕ → List ℕ → Type 0 where
  plain : {l : List ℕ} → NonEscaped l → UsualField l l
  quoted : {l : List ℕ} → NonEscaped l → UsualField (quote ∷ (l ++ (quote ∷ []))) l

-- one stands from an offset up to r
pub record EndsUsual (s : List ℕ) (from r : ℕ) : Type 0 where
  pub bytes : List ℕ
  pub holds : List ℕ
  pub field : UsualField bytes holds
  pub is : drop from s ≡ bytes ++ drop r s
  pub offset : r ≡ from + length bytes
  pub within : r ≤ length s

pub record QuoteAt (s : List ℕ) (from : ℕ) : Type 0 where
  pub inside : from < length s
  pub is : get_or s from 0 ≡ quote

-- a record of two of them; of any other nothing is said
pub data FindsUsual (ends : Bool) (s : List ℕ) : Option (ℕ × ℕ × ℕ) → Type 0 where
  pair : {c e n : ℕ} → PairOf UsualField ends s c e n → FindsUsual ends s (Some (c, e, n))
  other : FindsUsual ends s None

-- ---- a field put into a buffer as it is unquoted, and two of them as a line

-- the bytes of a quoted field that stand for a byte that it holds
abbrev pub bytes_of : ℕ → ℕ
bytes_of b = pick (eqb b quote) 2 1

-- the field l, of which F says what it holds
pub record PutsField (F : List ℕ → List ℕ → Type 0) (l b : List ℕ) (at : ℕ) (b' : List ℕ) (r : ℕ) : Type 0 where
  pub puts : (f : List ℕ) → F l f → PutText b at f b' r
  pub long : length b' ≡ length b
  pub most : r ≤ at + length l

pub record PutsQuoted (l b : List ℕ) (at : ℕ) (b' : List ℕ) (r : ℕ) : Type 0 where
  pub puts : (m f : List ℕ) → l ≡ quote ∷ (m ++ (quote ∷ [])) → Quoted m f → PutText b at f b' r
  pub long : length b' ≡ length b
  pub most : r ≤ at + length l

abbrev pub PutsLine : (List ℕ → List ℕ → Type 0) → List ℕ → ℕ → ℕ → List ℕ → List ℕ → ℕ → Type 0
PutsLine F s c e b b' r = (l m f g : List ℕ) → F l f → F m g → c ≡ length l → take e s ≡ l ++ (comma ∷ m) → PutText b 0 (line_of f g) b' r
