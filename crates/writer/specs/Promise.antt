-- What is promised: a text put into a lent buffer and what a copier says of it; how a number is written, and how many digits it has; numbers and dates
-- with no padding and a `-` before a negative number, at an offset of a buffer, and what a writer says of them.
use Rattle.std.specs.Prelude.{ℕ, ◌+◌, ◌≤◌, ◌<◌, zero, suc, ◌/◌, ◌%◌, ◌^◌, List, ◌++◌, [], ◌∷◌, length, take, drop, get_or, ◌≡◌, ℤ, pos, negsuc, Bool, true, false, Result, Ok, Err, Option, Some, None}
use Rattle.digits.specs.Numerals.{Numeral, dash}
use Rattle.refusals.specs.Promise.{refusal}
use Rattle.refusals.specs.declared.Refusal.{Refusal}

-- ---- a buffer

-- the buffer b with t in it from `at` on, and every other byte as it was
abbrev pub put : List ℕ → ℕ → List ℕ → List ℕ
put b at t = take at b ++ (t ++ drop (at + length t) b)

-- The text t is copied into the buffer b from `at` on, and the answer tells the offset after it; or b is too short for it, and is left as it was.
pub data Copies (t b : List ℕ) (at : ℕ) : List ℕ → Option ℕ → Type 0 where
  copied : at + length t ≤ length b → Copies t b at (put b at t) (Some (at + length t))
  no_room : length b < at + length t → Copies t b at b None

-- ---- a number as it is written: its digits, with no padding

-- digits that write n with no padding: a '0' stands first only where it stands alone
pub record Decimal (p : List ℕ) (n : ℕ) : Type 0 where
  pub numeral : Numeral p n
  pub unpadded : get_or p 0 0 ≡ 48 → length p ≡ 1

-- the last k digits of n
abbrev pub digits_of : ℕ → ℕ → List ℕ
digits_of zero n = []
digits_of (suc k) n = digits_of k (n / 10) ++ ((48 + n % 10) ∷ [])

-- n has k digits
pub record Width (n k : ℕ) : Type 0 where
  pub less : ℕ
  pub is : k ≡ suc less
  pub below : n < 10 ^ suc less
  pub least : 1 ≤ less → 10 ^ less ≤ n

-- a sign and a magnitude, which has k digits
abbrev pub whole_text : Bool → ℕ → ℕ → List ℕ
whole_text true k n = dash ∷ digits_of k n
whole_text false k n = digits_of k n

-- ---- numbers and dates

-- a whole number, with a `-` where it is negative
pub data WholeDecimal : List ℕ → ℤ → Type 0 where
  not_negative : {p : List ℕ} {n : ℕ} → Decimal p n → WholeDecimal p (pos n)
  negative : {p : List ℕ} {n : ℕ} → Decimal p (suc n) → WholeDecimal (dash ∷ p) (negsuc n)

-- year, month and day
pub data YmdDecimal : List ℕ → ℤ → ℕ → ℕ → Type 0 where
  ymd_decimal : {p q t : List ℕ} {y : ℤ} {m d : ℕ} → WholeDecimal p y → Decimal q m → Decimal t d → YmdDecimal (p ++ (dash ∷ (q ++ (dash ∷ t)))) y m d

-- The text t is to be written from `at` on. It is, and the answer tells the offset after it, which for a text at the front is its length; or the buffer is
-- too short for it, and is left as it was.
pub data Puts (t b : List ℕ) (at : ℕ) : List ℕ → Result ℕ Refusal → Type 0 where
  done : at + length t ≤ length b → Puts t b at (put b at t) (Ok (at + length t))
  short : length b < at + length t → Puts t b at b (Err (refusal 18 0 (pos (length t))))

-- a writer of what `IsText` says, into the buffer b from `at` on: it leaves b' and answers r
pub data Writes (IsText : List ℕ → Type 0) (b : List ℕ) (at : ℕ) (b' : List ℕ) (r : Result ℕ Refusal) : Type 0 where
  writes : {t : List ℕ} → IsText t → Puts t b at b' r → Writes IsText b at b' r

-- the text of a sign and a magnitude, whatever its width: put_at is a writer of it
pub data Signs (neg : Bool) (n : ℕ) : List ℕ → Type 0 where
  signs : {k : ℕ} → Width n k → Signs neg n (whole_text neg k n)

abbrev pub PutNumber : ℕ → List ℕ → ℕ → List ℕ → Result ℕ Refusal → Type 0
PutNumber n = Writes (λ (t : List ℕ). Decimal t n)

abbrev pub PutWhole : ℤ → List ℕ → ℕ → List ℕ → Result ℕ Refusal → Type 0
PutWhole x = Writes (λ (t : List ℕ). WholeDecimal t x)

abbrev pub WriteYmd : ℤ → ℕ → ℕ → List ℕ → List ℕ → Result ℕ Refusal → Type 0
WriteYmd y m d b b' r = Writes (λ (t : List ℕ). YmdDecimal t y m d) b 0 b' r
