-- Numbers written one after another into a lent buffer, and a whole line of them.
use Rattle.std.specs.Prelude.{ℕ, suc, ◌+◌, ◌-◌, ◌*◌, ◌/◌, ◌%◌, ◌≤◌, ◌<◌, ◌^◌, ◌≡◌, refl, Bool, true, false, List, [], ◌∷◌, ◌++◌, length, take, drop, ℤ, pos, nat_abs, Result, Ok, Err, Option, Some, None, ok_or}
use Rattle.std.specs.Result.{result_unwrap_or}
use Rattle.std.proofs.Common.{sym, ◌∙◌, ap, ap₂, subst, append_assoc, arith, length-append, take_at}
use Rattle.whole.specs.Promise.{is_negative_value}
use Rattle.refusals.specs.Promise.{refusal}
use Rattle.digits.specs.Numerals.{dash}
use Rattle.refusals.specs.declared.Refusal.{Refusal}
use Rattle.writer.specs.Promise.{Copies, copied, no_room, digits_of, WholeDecimal, Puts, Writes, Signs}
use Rattle.writer.specs.Laws.{PutText, length_digits, width_few, decimal_of, counting_start, counting_step, wrote, left_alone, whole_text_lem}
use Rattle.writer.proofs.PutLaws.{put_on}
use Rattle.linetext.specs.Line.{longest_line, mark, Columns, letters, number_columns, refusal_columns, of_numbers, of_refusal, Ended, ended}
use Rattle.whole.specs.Text.{newline, tab}
use Rattle.linetext.specs.Promise.{LineOut}
use Rattle.linetext.specs.declared.LineNumbers.{LineNumbers}

-- ---- a text of at most m bytes, as IsText says, stands in the buffer from `at` on, and every other byte is as it was; i is the offset after it

pub record Text (IsText : List ℕ → Type 0) (m : ℕ) (b : List ℕ) (at : ℕ) (b' : List ℕ) (i : ℕ) : Type 0 where
  pub text : List ℕ
  pub is : IsText text
  pub short : length text ≤ m
  pub put : PutText b at text b' i

module _ {P : List ℕ → Type 0} {m : ℕ} {b : List ℕ} {at : ℕ} {b' : List ℕ} {i : ℕ} (t : Text P m b at b' i) where
  pub ends : i ≤ at + m
  ends = omega (arith, t.put.offset, t.short)

  -- the same text, described otherwise
  pub text_as : {Q : List ℕ → Type 0} {n : ℕ} → ((u : List ℕ) → P u → Q u) → m ≤ n → Text Q n b at b' i
  text_as f h = record { text = t.text; is = f t.text t.is; short = omega (arith, t.short); put = t.put }

  -- a text after it
  pub text_then : {Q R : List ℕ → Type 0} {k : ℕ} {c : List ℕ} {j : ℕ} → Text Q k b' i c j → ((u v : List ℕ) → P u → Q v → R (u ++ v)) → at + m + k ≤ length b → Text R (m + k) b at c j
  text_then s f h =
      record {
        text = t.text ++ s.text;
        is = f t.text s.text t.is s.is;
        short = omega (arith, length-append t.text s.text, t.short, s.short);
        put = put_on t.put s.text (omega (arith, t.short, s.short)) s.put;
      }

pub put_text : {P : List ℕ → Type 0} {b : List ℕ} {at : ℕ} {t b' : List ℕ} {i m : ℕ} → P t → length t ≤ m → PutText b at t b' i → Text P m b at b' i
put_text {t = t} p h s = record { text = t; is = p; short = h; put = s }

-- ---- digits

-- two digits of a number below 100, as a number of two bytes
pub put_word : (n : ℕ) {b : List ℕ} {at : ℕ} {b₁ b₂ : List ℕ} {i j : ℕ} → n < 100 → at + 2 ≤ length b → PutText b at ((12336 + 256 * n - 2559 * (103 * n / 1024)) % 256 ∷ []) b₁ i → PutText b₁ i ((12336 + 256 * n - 2559 * (103 * n / 1024)) / 256 ∷ []) b₂ j → PutText b at (digits_of 2 n) b₂ j
put_word n {b} {at} {b₂ = b₂} {j = j} k h s r =
    subst (λ (t : List ℕ). PutText b at t b₂ j) (ap₂ (λ (x y : ℕ). x ∷ (y ∷ [])) (tens n k) (ones n k)) (put_on s ((12336 + 256 * n - 2559 * (103 * n / 1024)) / 256 ∷ []) (omega arith) r)
  where
    tenth : (n : ℕ) → n < 100 → 103 * n / 1024 ≡ n / 10
    tenth n k = omega arith

    word : (n q : ℕ) → q ≡ n / 10 → 12336 + 256 * n - 2559 * q ≡ 12336 + n / 10 + 256 * (n % 10)
    word n q e = omega arith

    low : (x y : ℕ) → x < 10 → (12336 + x + 256 * y) % 256 ≡ 48 + x % 10
    low x y h = omega arith

    high : (x y : ℕ) → x < 10 → (12336 + x + 256 * y) / 256 ≡ 48 + y
    high x y h = omega arith

    is : (n : ℕ) → n < 100 → 12336 + 256 * n - 2559 * (103 * n / 1024) ≡ 12336 + n / 10 + 256 * (n % 10)
    is n k = word n (103 * n / 1024) (tenth n k)

    tens : (n : ℕ) → n < 100 → (12336 + 256 * n - 2559 * (103 * n / 1024)) % 256 ≡ 48 + n / 10 % 10
    tens n k = ap (λ (w : ℕ). w % 256) (is n k) ∙ low (n / 10) (n % 10) (omega arith)

    ones : (n : ℕ) → n < 100 → (12336 + 256 * n - 2559 * (103 * n / 1024)) / 256 ≡ 48 + n % 10
    ones n k = ap (λ (w : ℕ). w / 256) (is n k) ∙ high (n / 10) (n % 10) (omega arith)

-- the last two digits of a number are those of its remainder by 100, and the last four those of its remainder by 10000
last_two : (n : ℕ) → digits_of 2 (n % 100) ≡ digits_of 2 n
last_two n = ap₂ (λ (x y : ℕ). (48 + x) ∷ ((48 + y) ∷ [])) (tens n) (ones n)
  where
    tens : (n : ℕ) → n % 100 / 10 % 10 ≡ n / 10 % 10
    tens n = omega arith

    ones : (n : ℕ) → n % 100 % 10 ≡ n % 10
    ones n = omega arith

last_four : (n : ℕ) → digits_of 4 (n % 10000) ≡ digits_of 4 n
last_four n = ap₂ (λ (x y : ℕ). (48 + x) ∷ ((48 + y) ∷ digits_of 2 (n % 10000))) (thousands n) (hundreds n) ∙ ap₂ (λ (x y : ℕ). (48 + n / 10 / 10 / 10 % 10) ∷ ((48 + n / 10 / 10 % 10) ∷ ((48 + x) ∷ ((48 + y) ∷ [])))) (tens n) (ones n)
  where
    thousands : (n : ℕ) → n % 10000 / 10 / 10 / 10 % 10 ≡ n / 10 / 10 / 10 % 10
    thousands n = omega arith

    hundreds : (n : ℕ) → n % 10000 / 10 / 10 % 10 ≡ n / 10 / 10 % 10
    hundreds n = omega arith

    tens : (n : ℕ) → n % 10000 / 10 % 10 ≡ n / 10 % 10
    tens n = omega arith

    ones : (n : ℕ) → n % 10000 % 10 ≡ n % 10
    ones n = omega arith

-- the digits before the last two, and those
pub put_pair : (k n : ℕ) {b : List ℕ} {at : ℕ} {b₁ b₂ : List ℕ} {i j : ℕ} → at + suc (suc k) ≤ length b → PutText b at (digits_of k (n / 100)) b₁ i → PutText b₁ i (digits_of 2 (n % 100)) b₂ j → PutText b at (digits_of (suc (suc k)) n) b₂ j
put_pair k n {b} {at} {b₂ = b₂} {j = j} h s r =
    subst (λ (t : List ℕ). PutText b at t b₂ j) (ap (λ (x : List ℕ). digits_of k (n / 100) ++ x) (last_two n) ∙ parts)
    (put_on s (digits_of 2 (n % 100)) (omega (arith, length_digits k (n / 100), length_digits 2 (n % 100))) r)
  where
    hundred : (n : ℕ) → n / 100 ≡ n / 10 / 10
    hundred n = omega arith

    parts : digits_of k (n / 100) ++ digits_of 2 n ≡ digits_of (suc (suc k)) n
    parts = ap (λ (q : ℕ). digits_of k q ++ digits_of 2 n) (hundred n) ∙ sym (append_assoc (digits_of k (n / 10 / 10)) ((48 + n / 10 % 10) ∷ []) ((48 + n % 10) ∷ []))

-- all digits of a number
pub put_number : (k n : ℕ) {b : List ℕ} {at : ℕ} {b' : List ℕ} {i m : ℕ} → n < 10 ^ suc k → (1 ≤ k → 10 ^ k ≤ n) → suc k ≤ m → PutText b at (digits_of (suc k) n) b' i → Text (Signs false n) m b at b' i
put_number k n l g h s = put_text (Signs.signs (record { less = k; is = refl; below = l; least = g })) (omega (arith, length_digits (suc k) n)) s

pub put_of_two : {n : ℕ} {b : List ℕ} {at : ℕ} {b' : List ℕ} {i : ℕ} → 10 ≤ n → n < 100 → PutText b at (digits_of 2 n) b' i → Text (Signs false n) 20 b at b' i
put_of_two {n} g h s = put_number 1 n h (λ _. g) (omega arith) s

tens : (n : ℕ) → n / 10 / 10 / 10 / 10 ≡ n / 10000
tens n = omega arith

four_on : (j n : ℕ) → digits_of j (n / 10000) ++ digits_of 4 n ≡ digits_of (j + 4) n
four_on j n = sym (ap (λ (k : ℕ). digits_of k n) (sucs j) ∙ parts ∙ ap (λ (q : ℕ). digits_of j q ++ digits_of 4 n) (tens n))
  where
    sucs : (k : ℕ) → k + 4 ≡ suc (suc (suc (suc k)))
    sucs k = omega arith

    parts : digits_of (suc (suc (suc (suc j)))) n ≡ digits_of j (n / 10 / 10 / 10 / 10) ++ digits_of 4 n
    parts = simp append_assoc

-- the digits above the last four, and those
pub put_eight : {n : ℕ} {b : List ℕ} {at : ℕ} {b₁ b₂ : List ℕ} {i j : ℕ} → 10000 ≤ n → at + 8 ≤ length b → Text (Signs false (n / 10000)) 4 b at b₁ i → PutText b₁ i (digits_of 4 (n % 10000)) b₂ j → Text (Signs false n) 20 b at b₂ j
put_eight {n} h l t s = text_as (text_then t (put_text {P = λ (v : List ℕ). v ≡ digits_of 4 n} {m = 4} (last_four n) (omega (arith, length_digits 4 (n % 10000))) s) both (omega arith)) (λ u p. p) (omega arith)
  where
    both : (u v : List ℕ) → Signs false (n / 10000) u → v ≡ digits_of 4 n → Signs false n (u ++ v)
    both u v (Signs.signs {k} w) e =
        subst (Signs false n) (sym (ap (λ (x : List ℕ). digits_of k (n / 10000) ++ x) e ∙ four_on k n)) (Signs.signs ((counting_step (counting_start n) h).more k w))

-- a number that was put with room for twenty digits
module _ {n : ℕ} {b : List ℕ} {at : ℕ} (fits : n < 2 ^ 64) where
  large_done : {b' : List ℕ} {i : ℕ} → Writes (Signs false n) b at b' (Ok i) → Text (Signs false n) 20 b at b' i
  large_done (Writes.writes (Signs.signs {k} w) p) = by p
    where
      by : {c : List ℕ} {j : ℕ} → Puts (digits_of k n) b at c (Ok j) → Text (Signs false n) 20 b at c j
      by (Puts.done h) =
          record { text = digits_of k n; is = Signs.signs w; short = omega (arith, length_digits k n, width_few w fits); put = record { is = refl; offset = refl } }

  large_never : {b' : List ℕ} {f : Refusal} → at + 20 ≤ length b → Writes (Signs false n) b at b' (Err f) → ⊥
  large_never {b'} {f} h (Writes.writes (Signs.signs {k} w) p) = by p
    where
      by : {c : List ℕ} {g : Refusal} → Puts (digits_of k n) b at c (Err g) → ⊥
      by (Puts.short l) = omega (arith, length_digits k n, width_few w fits)

  -- so the answer's place is the end of the digits
  pub large_put : (r : Result ℕ Refusal) {b' : List ℕ} → at + 20 ≤ length b → Writes (Signs false n) b at b' r → Text (Signs false n) 20 b at b' (result_unwrap_or r at)
  large_put (Ok i) h w = large_done w
  large_put (Err f) h w = absurd (large_never h w)

-- a sign, and the digits
pub put_minus : {neg : Bool} {n : ℕ} {b : List ℕ} {at : ℕ} {b₁ b₂ : List ℕ} {i j : ℕ} → neg ≡ true → at + 21 ≤ length b → PutText b at (dash ∷ []) b₁ i → Text (Signs false n) 20 b₁ i b₂ j → Text (Signs neg n) 21 b at b₂ j
put_minus {neg} {n} e h s t = text_then (put_text {P = λ (v : List ℕ). v ≡ dash ∷ []} {m = 1} refl (omega arith) s) t both (omega arith)
  where
    both : (u v : List ℕ) → u ≡ dash ∷ [] → Signs false n v → Signs neg n (u ++ v)
    both u v p (Signs.signs {k} w) = subst (λ (x : List ℕ). Signs neg n (x ++ digits_of k n)) (sym p) (subst (λ (g : Bool). Signs g n (dash ∷ digits_of k n)) (sym e) (Signs.signs w))

-- ---- a column: a number and the byte after it

pub data Cell (x : ℤ) (after : ℕ) : List ℕ → Type 0 where
  cell : {u : List ℕ} → WholeDecimal u x → Cell x after (u ++ (after ∷ []))

abbrev pub Column : ℤ → ℕ → List ℕ → ℕ → List ℕ → ℕ → Type 0
Column x after = Text (Cell x after) 22

closed : {x : ℤ} {after m : ℕ} {P : List ℕ → Type 0} {b : List ℕ} {at : ℕ} {b₁ b₂ : List ℕ} {i j : ℕ} → ((u : List ℕ) → P u → WholeDecimal u x) → m ≤ 21 → at + 22 ≤ length b
    → Text P m b at b₁ i → PutText b₁ i (after ∷ []) b₂ j → Column x after b at b₂ j
closed {x} {after} {P = P} f k h t s = text_as (text_then t (put_text {P = λ (v : List ℕ). v ≡ after ∷ []} {m = 1} refl (omega arith) s) both (omega arith)) (λ u p. p) (omega arith)
  where
    both : (u v : List ℕ) → P u → v ≡ after ∷ [] → Cell x after (u ++ v)
    both u v p e = subst (λ (y : List ℕ). Cell x after (u ++ y)) (sym e) (cell (f u p))

pub count_column : {n after : ℕ} {b : List ℕ} {at : ℕ} {b₁ b₂ : List ℕ} {i j : ℕ} → at + 22 ≤ length b → Text (Signs false n) 20 b at b₁ i → PutText b₁ i (after ∷ []) b₂ j → Column (pos n) after b at b₂ j
count_column {n} = closed by (omega arith)
  where
    by : (u : List ℕ) → Signs false n u → WholeDecimal u (pos n)
    by u (Signs.signs w) = WholeDecimal.not_negative (decimal_of w)

pub whole_column : {x : ℤ} {neg : Bool} {n after : ℕ} {b : List ℕ} {at : ℕ} {b₁ b₂ : List ℕ} {i j : ℕ} → neg ≡ is_negative_value x → n ≡ nat_abs x → at + 22 ≤ length b
    → Text (Signs neg n) 21 b at b₁ i → PutText b₁ i (after ∷ []) b₂ j → Column x after b at b₂ j
whole_column {x} {neg} {n} e h = closed (λ u s. by u (subst (λ (i : ℕ). Signs (is_negative_value x) i u) h (subst (λ (g : Bool). Signs g n u) e s))) (omega arith)
  where
    by : (u : List ℕ) → Signs (is_negative_value x) (nat_abs x) u → WholeDecimal u x
    by u (Signs.signs {k} w) = whole_text_lem x k w

-- ---- columns and the bytes e after them, from the last one on

pub data Cells (e : List ℕ) (xs : List ℤ) : List ℕ → Type 0 where
  cells : {t : List ℕ} → Columns xs t → Cells e xs (t ++ e)

abbrev pub CellsOf : List ℕ → List ℤ → ℕ → List ℕ → ℕ → List ℕ → ℕ → Type 0
CellsOf e xs = Text (Cells e xs)

pub last_cell : {x : ℤ} {after : ℕ} {b : List ℕ} {at : ℕ} {b' : List ℕ} {i : ℕ} → Column x after b at b' i → CellsOf (after ∷ []) (x ∷ []) 22 b at b' i
last_cell {x} {after} c = text_as c by (omega arith)
  where
    by : (u : List ℕ) → Cell x after u → Cells (after ∷ []) (x ∷ []) u
    by u (cell w) = cells (Columns.one w)

pub cell_before : {e : List ℕ} {x : ℤ} {xs : List ℤ} {m : ℕ} {b : List ℕ} {at : ℕ} {b₁ b₂ : List ℕ} {i j : ℕ} → at + 22 + m ≤ length b → Column x tab b at b₁ i → CellsOf e xs m b₁ i b₂ j → CellsOf e (x ∷ xs) (22 + m) b at b₂ j
cell_before {e} {x} {xs} h c r = text_then c r both h
  where
    both : (u v : List ℕ) → Cell x tab u → Cells e xs v → Cells e (x ∷ xs) (u ++ v)
    both u v (cell {u = s} w) (cells {t} y) = subst (Cells e (x ∷ xs)) (parted s t) (cells (Columns.more w y))
      where
        parted : (s t : List ℕ) → (s ++ (tab ∷ t)) ++ e ≡ (s ++ (tab ∷ [])) ++ (t ++ e)
        parted s t = simp append_assoc

-- the letters of a style and the newline, and the last number before them
abbrev pub last_letters : ℕ → List ℕ
last_letters w = letters w ++ (newline ∷ [])

pub put_letters : (w : ℕ) {b : List ℕ} {at : ℕ} {b₁ b₂ b₃ : List ℕ} {i j k : ℕ} → at + 3 ≤ length b
    → PutText b at (w % 256 ∷ []) b₁ i → PutText b₁ i (w / 256 % 256 ∷ []) b₂ j → PutText b₂ j (newline ∷ []) b₃ k → PutText b at (last_letters w) b₃ k
put_letters w h s t r = put_on (put_on s (w / 256 % 256 ∷ []) (omega arith) t) (newline ∷ []) (omega arith) r

pub letters_after : (w : ℕ) {x : ℤ} {b : List ℕ} {at : ℕ} {b₁ b₂ : List ℕ} {i j : ℕ} → at + 25 ≤ length b → Column x tab b at b₁ i → PutText b₁ i (last_letters w) b₂ j → CellsOf (tab ∷ last_letters w) (x ∷ []) 25 b at b₂ j
letters_after w {x} h c s = text_then c (put_text {P = λ (v : List ℕ). v ≡ last_letters w} {m = 3} refl (omega arith) s) both (omega arith)
  where
    both : (u v : List ℕ) → Cell x tab u → v ≡ last_letters w → Cells (tab ∷ last_letters w) (x ∷ []) (u ++ v)
    both u v (cell {u = s} d) e = subst (λ (y : List ℕ). Cells (tab ∷ last_letters w) (x ∷ []) ((s ++ (tab ∷ [])) ++ y)) (sym e) (subst (Cells (tab ∷ last_letters w) (x ∷ [])) (sym (append_assoc s (tab ∷ []) (last_letters w))) (cells (Columns.one d)))

-- ---- a line of output

abbrev pub LinePut : Result LineNumbers Refusal → List ℕ → ℕ → List ℕ → ℕ → Type 0
LinePut l = Text (Ended l) longest_line

pub numbers_line : {r : LineNumbers} {b : List ℕ} {at : ℕ} {b' : List ℕ} {i : ℕ} → CellsOf (tab ∷ last_letters r.style) (number_columns r) longest_line b at b' i → LinePut (Ok r) b at b' i
numbers_line {r} t = text_as t by (omega arith)
  where
    by : (u : List ℕ) → Cells (tab ∷ last_letters r.style) (number_columns r) u → Ended (Ok r) u
    by u (cells {t} c) = subst (Ended (Ok r)) (append_assoc t (tab ∷ letters r.style) (newline ∷ [])) (ended (of_numbers c))

pub refusal_line : {f : Refusal} {b : List ℕ} {at : ℕ} {b₁ b₂ b₃ : List ℕ} {i j k : ℕ} → at + 68 ≤ length b → PutText b at (mark ∷ []) b₁ i → PutText b₁ i (tab ∷ []) b₂ j → CellsOf (newline ∷ []) (refusal_columns f) 66 b₂ j b₃ k → LinePut (Err f) b at b₃ k
refusal_line {f} h s t r = text_as (text_then (put_text {P = λ (v : List ℕ). v ≡ mark ∷ (tab ∷ [])} {m = 2} refl (omega arith) (put_on s (tab ∷ []) (omega arith) t)) r both (omega arith)) (λ u p. p) (omega arith)
  where
    both : (u v : List ℕ) → u ≡ mark ∷ (tab ∷ []) → Cells (newline ∷ []) (refusal_columns f) v → Ended (Err f) (u ++ v)
    both u v e (cells c) = subst (λ (y : List ℕ). Ended (Err f) (y ++ v)) (sym e) (ended (of_refusal c))

-- ---- the same by equal values

pub column_as : {x y : ℤ} {after : ℕ} {b : List ℕ} {at : ℕ} {b' : List ℕ} {i : ℕ} → x ≡ y → Column x after b at b' i → Column y after b at b' i
column_as {after = after} {b} {at} {b'} {i} e = subst (λ (z : ℤ). Column z after b at b' i) e

-- the columns of a day, whose first two are signed
pub numbers_columns : {r : LineNumbers} {x y : ℤ} {b : List ℕ} {at : ℕ} {b₁ b₂ b₃ : List ℕ} {i₁ i₂ i₃ : ℕ} → at + longest_line ≤ length b → length b ≤ length b₁ → x ≡ r.jdn → y ≡ r.year
    → Column x tab b at b₁ i₁ → Column y tab b₁ i₁ b₂ i₂ → CellsOf (tab ∷ last_letters r.style) (pos r.ordinal ∷ pos r.month ∷ pos r.day ∷ pos r.weekday ∷ []) 91 b₂ i₂ b₃ i₃ → LinePut (Ok r) b at b₃ i₃
numbers_columns {r} h l e f c₁ c₂ t = numbers_line {r = r} (cell_before {m = 113} (omega arith) (column_as e c₁) (cell_before {m = 91} (omega (arith, ends c₁)) (column_as f c₂) t))

-- ---- a text made at the front of a buffer of its own

module _ {P : List ℕ → Type 0} {m : ℕ} {z z' : List ℕ} {n : ℕ} (t : Text P m z 0 z' n) where
  apart_long : n ≡ length t.text
  apart_long = omega (arith, t.put.offset)

  pub apart_is : take n z' ≡ t.text
  apart_is = ap (take n) t.put.is ∙ take_at t.text (drop (0 + length t.text) z) n (omega (arith, t.put.offset))

  -- it has room, and was copied; or it has not
  apart_done : {b : List ℕ} {at : ℕ} {b' : List ℕ} {i : ℕ} → Copies (take n z') b at b' (Some i) → Writes P b at b' (Ok i)
  apart_done {b} {at} {b'} {i} c = by (subst (λ (u : List ℕ). Copies u b at b' (Some i)) apart_is c)
    where
      by : {c : List ℕ} {j : ℕ} → Copies t.text b at c (Some j) → Writes P b at c (Ok j)
      by (copied h) = Writes.writes t.is (Puts.done h)

  apart_left : {b : List ℕ} {at : ℕ} {b' : List ℕ} {f : Refusal} → Copies (take n z') b at b' None → f ≡ refusal 18 0 (pos n) → Writes P b at b' (Err f)
  apart_left {b} {at} {b'} {f} c g = by (subst (λ (u : List ℕ). Copies u b at b' None) apart_is c)
    where
      by : {c : List ℕ} → Copies t.text b at c None → Writes P b at c (Err f)
      by (no_room h) = left_alone t.text t.is apart_long h g

  pub apart_put : (o : Option ℕ) {b : List ℕ} {at : ℕ} {b' : List ℕ} {f : Refusal} → Copies (take n z') b at b' o → f ≡ refusal 18 0 (pos n) → Writes P b at b' (ok_or o f)
  apart_put (Some i) c e = apart_done c
  apart_put None c e = apart_left c e

pub text_wrote : {P : List ℕ → Type 0} {m : ℕ} {b : List ℕ} {at : ℕ} {b' : List ℕ} {i : ℕ} → at + m ≤ length b → Text P m b at b' i → Writes P b at b' (Ok i)
text_wrote h t = wrote t.is (omega (arith, t.short)) t.put

-- ---- what the public writers promise

-- a line with its length
pub lined : {l : Result LineNumbers Refusal} {b : List ℕ} {at : ℕ} {b' : List ℕ} {i : ℕ} → LinePut l b at b' i → Text (LineOut l) longest_line b at b' i
lined t = record { text = t.text; is = record { is = t.is; short = t.short }; short = t.short; put = t.put }
