-- What the proofs need: of pieces written one after another, and of a pattern filled from its first byte on.
use Rattle.std.specs.Prelude.{ℕ, zero, suc, ◌+◌, ◌≤◌, ◌<◌, ◌^◌, ◌≡◌, refl, Bool, true, false, cond, ◌||◌, List, [], ◌∷◌, ◌++◌, length, get_or, drop, set, ltb, eqb, ℤ, pos, nat_abs, Result, Ok, Err, IsOk, Some, None}
use Rattle.std.proofs.Math.Path.{sym, ap}
use Rattle.std.proofs.Common.{◌∙◌, ap₂, subst, append_assoc, append-nil, ⊎_elim, arith, length-append, drop-cons, drop-drop, to_z-of_z}
use Rattle.std.proofs.Math.Seq.{drop-nil}
use borrow.Author.Tests.{eqb-true, le-leb, lt-leb, le-ltb, lt-ltb}
use borrow.Author.Rules.{sfits_of}
use Rattle.std.specs.Int.{w64}
use mir.Val.{hbits, to_z, of_z}
use Rattle.std.specs.Int.Signed.{mag}
use Rattle.whole.specs.Text.{bytes, newline}
use Rattle.expected.specs.declared.Expected.{Expected}
use Rattle.whole.specs.Tests.{true_or_false}
use Rattle.whole.specs.Promise.{is_negative_value}
use Rattle.refusals.specs.declared.Refusal.{Refusal}
use Rattle.writer.specs.Promise.{Copies, whole_text, Width, WholeDecimal, Puts, Writes, Signs}
use Rattle.writer.specs.Laws.{PutText, length_digits, width_few, whole_text_lem}
use Rattle.writer.proofs.PutLaws.{put_on, put_none, put_byte, Copying, copying_on, copying_done}
use Rattle.linetext.specs.Laws.{Text, text_as, text_then, put_text}
use Rattle.explaining.specs.Patterns.{shown_byte_value, shown, number_mark, name_mark, text_mark, Filled, number, no_number, the_name, the_text, itself, cost_of, cost}
use Rattle.reasons.specs.declared.Reason.{Reason}
use Rattle.reasons.specs.declared.Reason.TheVariants.{Faulty}
use Rattle.explaining.specs.Wording.{digit_words, further, choices, spaces, picture, fault_pattern, fault_end, sentence, numbers_of_value, follows, Says, says}
use Rattle.explaining.specs.Promise.{longest_paragraph, Room}

-- ---- a text with room for it

pub put_copied : {t o : List ℕ} {at : ℕ} {o' : List ℕ} {i : ℕ} → Copies t o at o' (Some i) → PutText o at t o' i
put_copied (Copies.copied h) = record { is = refl; offset = refl }

pub never_full : {t o : List ℕ} {at : ℕ} {o' : List ℕ} → at + length t ≤ length o → Copies t o at o' None → ⊥
never_full h (Copies.no_room k) = omega arith

-- ---- a byte as it is shown

pub shown_long : (s : List ℕ) → length (shown s) ≡ length s
unfolding shown
shown_long [] = refl
shown_long (b ∷ s) = ap suc (shown_long s)

pub shown_low : (b : ℕ) → b < 32 → 63 ≡ shown_byte_value b
shown_low b h = rw (lt-leb 32 b h) refl

pub shown_high : (b : ℕ) → 32 ≤ b → 126 < b → 63 ≡ shown_byte_value b
shown_high b h k = rw (le-leb 32 b h, lt-leb b 126 k) refl

pub shown_same : (b : ℕ) → 32 ≤ b → b ≤ 126 → b ≡ shown_byte_value b
shown_same b h k = rw (le-leb 32 b h, le-leb b 126 k) refl

shown_at : (s : List ℕ) (i : ℕ) → i < length s → get_or (shown s) i 0 ≡ shown_byte_value (get_or s i 0)
unfolding shown
shown_at [] i h = absurd (omega arith)
shown_at (b ∷ s) zero h = refl
shown_at (b ∷ s) (suc i) h = shown_at s i (omega arith)

-- bytes shown one after another
module _ (s : List ℕ) {b₀ : List ℕ} {at : ℕ} {b : List ℕ} {i : ℕ} (h : at + length s ≤ length b₀) (c : Copying b₀ at (shown s) b i) where
  fits : at + length (shown s) ≤ length b₀
  fits = omega (arith, shown_long s)

  pub showing_on : {x : ℕ} → i < length s → x ≡ shown_byte_value (get_or s i 0) → Copying b₀ at (shown s) (set b (at + i) x) (i + 1)
  showing_on {x} l e = subst (λ (y : ℕ). Copying b₀ at (shown s) (set b (at + i) y) (i + 1)) (shown_at s i l ∙ sym e) (copying_on fits c (omega (arith, shown_long s)))

  pub showing_done : length s ≤ i → PutText b₀ at (shown s) b (at + length s)
  showing_done l = subst (λ (k : ℕ). PutText b₀ at (shown s) b (at + k)) (shown_long s) (copying_done fits c (omega (arith, shown_long s)))

-- ---- a number with room for it

signs_short : (neg : Bool) (n k : ℕ) → k ≤ 20 → length (whole_text neg k n) ≤ 21
signs_short true n k h = omega (arith, length_digits k n)
signs_short false n k h = omega (arith, length_digits k n)

abbrev pub Decimals : ℤ → List ℕ → Type 0
Decimals x t = WholeDecimal t x

pub number_done : (x : ℤ) {neg : Bool} {n : ℕ} {b : List ℕ} {at : ℕ} {b' : List ℕ} {i : ℕ} → neg ≡ is_negative_value x → n ≡ nat_abs x → n < 2 ^ 64
    → Writes (Signs neg n) b at b' (Ok i) → Text (Decimals x) 21 b at b' i
number_done x {neg} {n} e a fits (Writes.writes (Signs.signs {k} w) (Puts.done h)) =
    record { text = whole_text neg k n; is = is; short = signs_short neg n k (width_few w fits); put = record { is = refl; offset = refl } }
  where
    is : WholeDecimal (whole_text neg k n) x
    is =
        subst (λ (g : Bool). WholeDecimal (whole_text g k n) x) (sym e)
        (subst (λ (j : ℕ). WholeDecimal (whole_text (is_negative_value x) k j) x) (sym a) (whole_text_lem x k (subst (λ (j : ℕ). Width j k) a w)))

pub number_never : {neg : Bool} {n : ℕ} {b : List ℕ} {at : ℕ} {b' : List ℕ} {f : Refusal} → n < 2 ^ 64 → at + 21 ≤ length b → Writes (Signs neg n) b at b' (Err f) → ⊥
number_never {neg} {n} fits h (Writes.writes (Signs.signs {k} w) (Puts.short l)) = omega (arith, signs_short neg n k (width_few w fits))

pub number_told : {neg : Bool} {n : ℕ} {b : List ℕ} {at : ℕ} {b' : List ℕ} (r : Result ℕ Refusal) → n < 2 ^ 64 → at + 21 ≤ length b → Writes (Signs neg n) b at b' r → IsOk r
number_told (Ok i) fits h w = refl
number_told (Err f) fits h w = absurd (number_never fits h w)

-- ---- past the end of a list nothing is left

drop_past : {A : Type 0} (k : ℕ) (l : List A) → length l ≤ k → drop k l ≡ []
drop_past k [] h = drop-nil k
drop_past zero (x ∷ l) h = absurd (omega arith)
drop_past (suc k) (x ∷ l) h = drop_past k l (omega arith)

-- ---- one byte of a pattern: what it leaves of the numbers, and what stands for it

abbrev pub left_of : ℕ → List ℤ → List ℤ
left_of b ns = cond (eqb b number_mark) (drop 1 ns) ns

abbrev pub used_after_value : ℕ → ℕ → ℕ
used_after_value b used = cond (eqb b number_mark) (used + 1) used

abbrev pub Piece : List ℕ → List ℕ → List ℤ → ℕ → List ℕ → Type 0
Piece name text ns b u = (p v : List ℕ) → Filled name text p (left_of b ns) v → Filled name text (b ∷ p) ns (u ++ v)

pub other : (b k : ℕ) → ¬ (b ≡ k) → eqb b k ≡ false
other b k h = ⊎_elim (λ e. absurd (h (eqb-true b k e))) (λ e. e) (true_or_false (eqb b k))

pub used_most : (b used : ℕ) → used_after_value b used ≤ used + 1
used_most b used = by (eqb b number_mark)
  where
    by : (t : Bool) → cond t (used + 1) used ≤ used + 1
    by true = omega arith
    by false = omega arith

used_left : (b used : ℕ) (ns : List ℤ) → left_of b (drop used ns) ≡ drop (used_after_value b used) ns
used_left b used ns = by (eqb b number_mark)
  where
    by : (t : Bool) → cond t (drop 1 (drop used ns)) (drop used ns) ≡ drop (cond t (used + 1) used) ns
    by true = drop-drop 1 used ns
    by false = refl

module _ (name text : List ℕ) {b : ℕ} where
  pub piece_number : (x : ℤ) (ns : List ℤ) → b ≡ number_mark → (u : List ℕ) → WholeDecimal u x → Piece name text (x ∷ ns) b u
  piece_number x ns e u w p v f = rw e (number w (rw e at f))

  pub piece_nothing : b ≡ number_mark → Piece name text [] b []
  piece_nothing e p v f = rw e (no_number (rw e at f))

  pub piece_name : (ns : List ℤ) → b ≡ name_mark → Piece name text ns b (shown name)
  piece_name ns e p v f = rw e (the_name (rw e at f))

  pub piece_text : (ns : List ℤ) → b ≡ text_mark → Piece name text ns b (shown text)
  piece_text ns e p v f = rw e (the_text (rw e at f))

  pub piece_itself : (ns : List ℤ) → ¬ (b ≡ number_mark) → ¬ (b ≡ name_mark) → ¬ (b ≡ text_mark) → Piece name text ns b (b ∷ [])
  piece_itself ns h k l p v f = itself h k l (rw (other b number_mark h) at f)

-- how many bytes it takes at most
module _ (n m : ℕ) {b : ℕ} where
  pub cost_number : b ≡ number_mark → cost_of n m b ≡ 21
  cost_number e = rw e refl

  pub cost_name : b ≡ name_mark → cost_of n m b ≡ n
  cost_name e = rw e refl

  pub cost_text : b ≡ text_mark → cost_of n m b ≡ m
  cost_text e = rw e refl

  pub cost_itself : ¬ (b ≡ number_mark) → ¬ (b ≡ name_mark) → ¬ (b ≡ text_mark) → cost_of n m b ≡ 1
  cost_itself h k l = rw (other b number_mark h, other b name_mark k, other b text_mark l) refl

-- what was put for it
module _ (name text : List ℕ) {b₀ : List ℕ} {at : ℕ} {b : ℕ} where
  pub put_piece_number : (ns : List ℤ) (used : ℕ) {x : ℤ} {b' : List ℕ} {i : ℕ} → b ≡ number_mark → used < length ns → x ≡ get_or ns used (pos 0) → Text (Decimals x) 21 b₀ at b' i
      → Text (Piece name text (drop used ns) b) (cost_of (length name) (length text) b) b₀ at b' i
  put_piece_number ns used {x} e h q t = text_as t by (omega (arith, cost_number (length name) (length text) e))
    where
      parts : x ∷ drop (suc used) ns ≡ drop used ns
      parts = ap (λ (y : ℤ). y ∷ drop (suc used) ns) q ∙ sym (drop-cons ns used (pos 0) h)

      by : (u : List ℕ) → WholeDecimal u x → Piece name text (drop used ns) b u
      by u w = subst (λ (ms : List ℤ). Piece name text ms b u) parts (piece_number name text x (drop (suc used) ns) e u w)

  pub put_piece_nothing : (ns : List ℤ) (used : ℕ) → b ≡ number_mark → length ns ≤ used → Text (Piece name text (drop used ns) b) (cost_of (length name) (length text) b) b₀ at b₀ at
  put_piece_nothing ns used e h = put_text {P = Piece name text (drop used ns) b} {t = []} (subst (λ (ms : List ℤ). Piece name text ms b []) (sym (drop_past used ns h)) (piece_nothing name text e)) (omega arith) (record { is = sym (put_none b₀ at); offset = omega arith })

  pub put_piece_name : (ns : List ℤ) {b' : List ℕ} {i : ℕ} → b ≡ name_mark → PutText b₀ at (shown name) b' i → Text (Piece name text ns b) (cost_of (length name) (length text) b) b₀ at b' i
  put_piece_name ns e s = put_text {P = Piece name text ns b} (piece_name name text ns e) (omega (arith, cost_name (length name) (length text) e, shown_long name)) s

  pub put_piece_text : (ns : List ℤ) {b' : List ℕ} {i : ℕ} → b ≡ text_mark → PutText b₀ at (shown text) b' i → Text (Piece name text ns b) (cost_of (length name) (length text) b) b₀ at b' i
  put_piece_text ns e s = put_text {P = Piece name text ns b} (piece_text name text ns e) (omega (arith, cost_text (length name) (length text) e, shown_long text)) s

  pub put_piece_itself : (ns : List ℤ) → ¬ (b ≡ number_mark) → ¬ (b ≡ name_mark) → ¬ (b ≡ text_mark) → at + cost_of (length name) (length text) b ≤ length b₀
      → Text (Piece name text ns b) (cost_of (length name) (length text) b) b₀ at (set b₀ at b) (at + 1)
  put_piece_itself ns h k l f =
      let one : cost_of (length name) (length text) b ≡ 1 = cost_itself (length name) (length text) h k l in
      put_text {P = Piece name text ns b} {t = b ∷ []} (piece_itself name text ns h k l) (omega arith) (record { is = put_byte b₀ at b (omega arith); offset = refl })

-- ---- a pattern filled up to its byte i, with `used` of the numbers

pub record Going (name text p : List ℕ) (ns : List ℤ) (b₀ : List ℕ) (at : ℕ) (b : List ℕ) (end used i : ℕ) : Type 0 where
  pub written : List ℕ
  pub put : PutText b₀ at written b end
  pub same : length b ≡ length b₀
  pub inside : i ≤ length p
  pub few : used ≤ i
  pub room : length written + cost (length name) (length text) (drop i p) ≤ cost (length name) (length text) p
  pub goes : (t : List ℕ) → Filled name text (drop i p) (drop used ns) t → Filled name text p ns (written ++ t)

pub going_start : (name text p : List ℕ) (ns : List ℤ) (b : List ℕ) (at : ℕ) → Going name text p ns b at b at 0 0
going_start name text p ns b at =
    record { written = []; put = record { is = sym (put_none b at); offset = omega arith }; same = refl; inside = omega arith; few = omega arith; room = omega arith; goes = λ t f. f }

module _ {name text p : List ℕ} {ns : List ℤ} {b₀ : List ℕ} {at : ℕ} {b : List ℕ} {end used i : ℕ} (g : Going name text p ns b₀ at b end used i) (fits : at + cost (length name) (length text) p ≤ length b₀) where
  next : i < length p → drop i p ≡ get_or p i 0 ∷ drop (i + 1) p
  next h = drop-cons p i 0 h ∙ ap (λ (k : ℕ). get_or p i 0 ∷ drop k p) (one_on i)
    where
      one_on : (i : ℕ) → suc i ≡ i + 1
      one_on i = omega arith

  pub going_cost : i < length p → cost (length name) (length text) (drop i p) ≡ cost_of (length name) (length text) (get_or p i 0) + cost (length name) (length text) (drop (i + 1) p)
  unfolding cost
  going_cost h = ap (cost (length name) (length text)) (next h)

  pub going_room : i < length p → end + cost_of (length name) (length text) (get_or p i 0) ≤ length b
  going_room h = omega (arith, g.put.offset, g.same, g.room, going_cost h)

  pub going_on : {b' : List ℕ} {end' used' : ℕ} → i < length p → length b' ≡ length b → used' ≡ used_after_value (get_or p i 0) used
      → Text (Piece name text (drop used ns) (get_or p i 0)) (cost_of (length name) (length text) (get_or p i 0)) b end b' end' → Going name text p ns b₀ at b' end' used' (i + 1)
  going_on {b'} {end'} {used'} h l e t =
      record {
        written = g.written ++ t.text;
        put = put_on g.put t.text (omega (arith, g.room, going_cost h, t.short)) t.put;
        same = l ∙ g.same;
        inside = omega arith;
        few = omega (arith, e, used_most (get_or p i 0) used, g.few);
        room = omega (arith, length-append g.written t.text, g.room, going_cost h, t.short);
        goes = goes;
      }
    where
      goes : (v : List ℕ) → Filled name text (drop (i + 1) p) (drop used' ns) v → Filled name text p ns ((g.written ++ t.text) ++ v)
      goes v f =
          subst (Filled name text p ns) (sym (append_assoc g.written t.text v))
          (g.goes (t.text ++ v)
          (subst (λ (q : List ℕ). Filled name text q (drop used ns) (t.text ++ v)) (sym (next h))
          (t.is (drop (i + 1) p) v
          (subst (λ (ms : List ℤ). Filled name text (drop (i + 1) p) ms v) (ap (λ (k : ℕ). drop k ns) e ∙ sym (used_left (get_or p i 0) used ns)) f))))

  pub going_done : length p ≤ i → Text (Filled name text p ns) (cost (length name) (length text) p) b₀ at b end
  going_done h = record { text = g.written; is = subst (Filled name text p ns) (append-nil g.written) (g.goes [] all); short = omega (arith, g.room); put = g.put }
    where
      all : Filled name text (drop i p) (drop used ns) []
      all = subst (λ (q : List ℕ). Filled name text q (drop used ns) []) (sym (drop_past i p h)) Filled.end

-- ---- known texts one after another

abbrev pub Is : List ℕ → List ℕ → Type 0
Is t u = u ≡ t

pub is_put : {b : List ℕ} {at : ℕ} {t b' : List ℕ} {i : ℕ} (m : ℕ) → length t ≤ m → PutText b at t b' i → Text (Is t) m b at b' i
is_put {t = t} m h s = put_text {P = Is t} refl h s

pub is_then : {b : List ℕ} {at : ℕ} {b₁ b₂ : List ℕ} {i j m k : ℕ} {x y : List ℕ} → Text (Is x) m b at b₁ i → Text (Is y) k b₁ i b₂ j → at + m + k ≤ length b → Text (Is (x ++ y)) (m + k) b at b₂ j
is_then {x = x} {y} s t h = text_then s t (λ u v p q. ap₂ (λ (a c : List ℕ). a ++ c) p q) h

pub is_as : {b : List ℕ} {at : ℕ} {b' : List ℕ} {i m n : ℕ} {x y : List ℕ} → x ≡ y → m ≤ n → Text (Is x) m b at b' i → Text (Is y) n b at b' i
is_as e h t = text_as t (λ u p. p ∙ e) h

pub is_nothing : (b : List ℕ) (at m : ℕ) → Text (Is []) m b at b at
is_nothing b at m = is_put {t = []} m (omega arith) (record { is = sym (put_none b at); offset = omega arith })

-- ---- the words of a choice

module _ {n : ℕ} where
  pub words_none : n ≡ 0 → [] ≡ digit_words n
  unfolding digit_words
  words_none e = sym (rw e refl)

  pub words_one : n ≡ 1 → bytes "the digit 0" ≡ digit_words n
  unfolding digit_words
  words_one e = sym (rw e refl)

  pub words_some : ¬ (n ≡ 0) → ¬ (n ≡ 1) → n < 10 → bytes "a digit 0 to " ++ ((47 + n) ∷ []) ≡ digit_words n
  unfolding digit_words
  words_some h k l = sym (rw (other n 0 h, other n 1 k, lt-ltb n 10 l) refl)

  pub words_any : ¬ (n ≡ 0) → ¬ (n ≡ 1) → 10 ≤ n → bytes "a digit" ≡ digit_words n
  unfolding digit_words
  words_any h k l = sym (rw (other n 0 h, other n 1 k, le-ltb n 10 l) refl)

-- ---- spaces

pub spaces_long : (n : ℕ) → length (spaces n) ≡ n
unfolding spaces
spaces_long zero = refl
spaces_long (suc n) = ap suc (spaces_long n)

spaces_at : (n i : ℕ) → i < n → get_or (spaces n) i 0 ≡ 32
unfolding spaces
spaces_at zero i h = absurd (omega arith)
spaces_at (suc n) zero h = refl
spaces_at (suc n) (suc i) h = spaces_at n i (omega arith)

module _ (n : ℕ) {b₀ : List ℕ} {at : ℕ} {b : List ℕ} {i : ℕ} (h : at + n ≤ length b₀) (c : Copying b₀ at (spaces n) b i) where
  fits_spaces : at + length (spaces n) ≤ length b₀
  fits_spaces = omega (arith, spaces_long n)

  pub spacing_on : i < n → Copying b₀ at (spaces n) (set b (at + i) 32) (i + 1)
  spacing_on l = subst (λ (y : ℕ). Copying b₀ at (spaces n) (set b (at + i) y) (i + 1)) (spaces_at n i l) (copying_on fits_spaces c (omega (arith, spaces_long n)))

  pub spacing_done : n ≤ i → PutText b₀ at (spaces n) b (at + n)
  spacing_done l = subst (λ (k : ℕ). PutText b₀ at (spaces n) b (at + k)) (spaces_long n) (copying_done fits_spaces c (omega (arith, spaces_long n)))

-- ---- a further choice, and all of them

module _ (named : Bool) {holds : Bool} (word : List ℕ) where
  pub further_or : holds ≡ true → named ≡ true → bytes " or " ++ word ≡ further named holds word
  further_or h k = sym (rw (h, k) refl)

  pub further_first : holds ≡ true → named ≡ false → word ≡ further named holds word
  further_first h k = sym (rw (h, k) refl)

  pub further_none : holds ≡ false → [] ≡ further named holds word
  further_none h = sym (rw h refl)

pub choices_put : (e : Expected) {s t : Bool} {b : List ℕ} {at : ℕ} {b₁ b₂ b₃ b₄ : List ℕ} {i₁ i₂ i₃ i₄ : ℕ} → at + 39 ≤ length b → s ≡ ltb 0 e.digits || e.dash → t ≡ s || e.plus
    → Text (Is (digit_words e.digits)) 14 b at b₁ i₁ → Text (Is (further (ltb 0 e.digits) e.dash (bytes "\"-\""))) 7 b₁ i₁ b₂ i₂
    → Text (Is (further s e.plus (bytes "\"+\""))) 7 b₂ i₂ b₃ i₃ → Text (Is (further t e.ends (bytes "the end"))) 11 b₃ i₃ b₄ i₄ → Text (Is (choices e)) 39 b at b₄ i₄
unfolding choices
choices_put e {s} {t} h p q t₁ t₂ t₃ t₄ = is_as (joined (digit_words e.digits) _ _ _ ∙ same) (omega arith) (is_then (is_then (is_then t₁ t₂ (omega arith)) t₃ (omega arith)) t₄ (omega arith))
  where
    joined : (w x y z : List ℕ) → ((w ++ x) ++ y) ++ z ≡ w ++ (x ++ (y ++ z))
    joined w x y z = simp append_assoc

    q' : t ≡ (ltb 0 e.digits || e.dash) || e.plus
    q' = q ∙ ap (λ (g : Bool). g || e.plus) p

    same : digit_words e.digits ++ (further (ltb 0 e.digits) e.dash (bytes "\"-\"") ++ (further s e.plus (bytes "\"+\"") ++ further t e.ends (bytes "the end"))) ≡ choices e
    same =
        ap₂ (λ (f g : Bool). digit_words e.digits ++ (further (ltb 0 e.digits) e.dash (bytes "\"-\"") ++ (further f e.plus (bytes "\"+\"") ++ further g e.ends (bytes "the end"))))
        p q'

-- ---- the lines of a picture

pub picture_put : (text : List ℕ) (place : ℕ) {b : List ℕ} {at : ℕ} {b₁ b₂ b₃ b₄ b₅ : List ℕ} {i₁ i₂ i₃ i₄ i₅ : ℕ} → at + (11 + length text + place) ≤ length b
    → PutText b at (spaces 4) b₁ i₁ → PutText b₁ i₁ (shown text) b₂ i₂ → PutText b₂ i₂ (newline ∷ []) b₃ i₃ → PutText b₃ i₃ (spaces (4 + place)) b₄ i₄ → PutText b₄ i₄ (bytes "^\n") b₅ i₅
    → Text (Is (picture text place)) (11 + length text + place) b at b₅ i₅
unfolding picture bytes
picture_put text place h s₁ s₂ s₃ s₄ s₅ =
    is_as (joined (spaces 4) (shown text) (newline ∷ []) (spaces (4 + place)) (bytes "^\n")) (omega arith)
    (is_then
    (is_then
    (is_then (is_then (is_put 4 (omega (arith, spaces_long 4)) s₁) (is_put (length text) (omega (arith, shown_long text)) s₂) (omega arith)) (is_put 1 (omega arith) s₃) (omega arith))
    (is_put (4 + place) (omega (arith, spaces_long (4 + place))) s₄)
    (omega arith))
    (is_put 2 (omega arith) s₅)
    (omega arith))
  where
    joined : (v w x y z : List ℕ) → (((v ++ w) ++ x) ++ y) ++ z ≡ v ++ (w ++ (x ++ (y ++ z)))
    joined v w x y z = simp append_assoc

-- ---- a sentence within its bound

either_cost : {n n' m m' : ℕ} (b : ℕ) → n ≤ n' → m ≤ m' → cost_of n m b ≤ cost_of n' m' b
either_cost {n} {n'} {m} {m'} b h k = by (eqb b number_mark) (eqb b name_mark) (eqb b text_mark)
  where
    by : (s t u : Bool) → cond s 21 (cond t n (cond u m 1)) ≤ cond s 21 (cond t n' (cond u m' 1))
    by true t u = omega arith
    by false true u = h
    by false false true = k
    by false false false = omega arith

-- the cost grows with the lengths of the name and of the text
cost_grows : {n n' m m' : ℕ} (p : List ℕ) → n ≤ n' → m ≤ m' → cost n m p ≤ cost n' m' p
unfolding cost
cost_grows [] h k = omega arith
cost_grows (b ∷ p) h k = omega (arith, either_cost b h k, cost_grows p h k)

pub cost_within : (p : List ℕ) {b : List ℕ} {at : ℕ} {name text : List ℕ} → Room b at name text → cost 512 512 p ≤ 2048 → cost (length name) (length text) p ≤ 2048
cost_within p r h = omega (arith, cost_grows p r.name_short r.text_short)

-- ---- a reason with one sentence

pub says_alone : {name text : List ℕ} (reason : Reason) {b : List ℕ} {at : ℕ} {b' : List ℕ} {i : ℕ} → follows text reason ≡ []
    → Text (Filled name text (sentence reason) (numbers_of_value reason)) 2048 b at b' i → Text (Says name text reason) longest_paragraph b at b' i
says_alone {name} {text} reason e t = text_as t by (omega arith)
  where
    by : (u : List ℕ) → Filled name text (sentence reason) (numbers_of_value reason) u → Says name text reason u
    by u f = subst (Says name text reason) (ap (λ (v : List ℕ). u ++ v) e ∙ append-nil u) (says f)

pub numbers_as : {name text p : List ℕ} {ns ms : List ℤ} {m : ℕ} {b : List ℕ} {at : ℕ} {b' : List ℕ} {i : ℕ} → ns ≡ ms → Text (Filled name text p ns) m b at b' i → Text (Filled name text p ms) m b at b' i
numbers_as {name} {text} {p} {m = m} {b} {at} {b'} {i} e = subst (λ (xs : List ℤ). Text (Filled name text p xs) m b at b' i) e

pub says_as : {name text : List ℕ} {r s : Reason} {m : ℕ} {b : List ℕ} {at : ℕ} {b' : List ℕ} {i : ℕ} → r ≡ s → Text (Says name text s) m b at b' i → Text (Says name text r) m b at b' i
says_as {name} {text} {m = m} {b} {at} {b'} {i} e = subst (λ (x : Reason). Text (Says name text x) m b at b' i) (sym e)

-- ---- a faulty text

module _ (text : List ℕ) {n : ℕ} (place : ℕ) (e : Expected) where
  pub end_month : n ≡ 3 → bytes ".\n" ++ picture text place ≡ fault_end text n place e
  unfolding fault_end
  end_month h = sym (rw h refl)

  pub end_other : ¬ (n ≡ 3) → (bytes "; there could stand " ++ choices e) ++ (bytes ".\n" ++ picture text place) ≡ fault_end text n place e
  unfolding fault_end
  end_other h = sym (rw (other n 3 h) refl)

pub faulty_put : {name text : List ℕ} (why : Refusal) (in_year_value : Bool) (place : ℕ) (e : Expected) {b : List ℕ} {at : ℕ} {b₁ b₂ : List ℕ} {i j : ℕ} → at + longest_paragraph ≤ length b
    → Text (Filled name text (fault_pattern why.number in_year_value) (pos place ∷ why.value ∷ [])) 2048 b at b₁ i → Text (Is (fault_end text why.number place e)) 1097 b₁ i b₂ j
    → Text (Says name text (Faulty why in_year_value place e)) longest_paragraph b at b₂ j
faulty_put {name} {text} why in_year_value place e h t s = text_as (text_then t s both (omega arith)) (λ u p. p) (omega arith)
  where
    both : (u v : List ℕ) → Filled name text (fault_pattern why.number in_year_value) (pos place ∷ why.value ∷ []) u → v ≡ fault_end text why.number place e → Says name text (Faulty why in_year_value place e) (u ++ v)
    both u v f q = subst (λ (x : List ℕ). Says name text (Faulty why in_year_value place e) (u ++ x)) (sym q) (says f)

-- ---- numbers as they are held in 64 bits

pub also : {x y : ℤ} {xs ys : List ℤ} → x ≡ y → xs ≡ ys → x ∷ xs ≡ y ∷ ys
also e f = ap₂ (λ (z : ℤ) (zs : List ℤ). z ∷ zs) e f

pub held : {r x : ℤ} → mag r < 2 ^ hbits w64 → r ≡ x → to_z w64 (of_z w64 r) ≡ x
held h e = to_z-of_z {w = w64} (sfits_of h) ∙ e
