-- Bytes compared eight at a time: two words are equal exactly if their bytes are.
use Rattle.std.specs.Prelude.{◌≡◌, ℕ, zero, suc, ◌+◌, ◌-◌, ◌*◌, ◌<◌, ◌≤◌, List, length, slice_index, slice_index_or}
use Rattle.std.proofs.Common.{sym, ◌∙◌, ⊎_elim, Fits}
use Rattle.std.proofs.Math.Path.{ap, ap₂}
use native.Mathlib.Omega.{arith}
use Rattle.std.specs.Int.{w8}
use Rattle.whole.specs.Tests.{lt_or_ge}
use Rattle.nametable.specs.Hash.{four_of, word_of}
use Rattle.nametable.specs.Promise.{Alike}

-- bytes
abbrev pub Bytes : List ℕ → Type 0
Bytes s = (i : ℕ) → Fits w8 (slice_index s i)

-- ---- from the bytes to the word

four_same : (s t : List ℕ) (i j : ℕ) → slice_index s i ≡ slice_index t j → slice_index s (i + 1) ≡ slice_index t (j + 1) → slice_index s (i + 2) ≡ slice_index t (j + 2) → slice_index s (i + 3) ≡ slice_index t (j + 3) → four_of s i ≡ four_of t j
four_same s t i j a b c d = ap₂ (λ (x y : ℕ). x + 256 * y) a (ap₂ (λ (x y : ℕ). x + 256 * y) b (ap₂ (λ (x y : ℕ). x + 256 * y) c d))

module _ (s t : List ℕ) (from : ℕ) (a : Alike s t from) where
  on : (i k : ℕ) → i + k < length s → slice_index s (i + k) ≡ slice_index t (from + i + k)
  on i k h = let e : from + (i + k) ≡ from + i + k = omega arith in a (i + k) h ∙ ap (λ (x : ℕ). slice_index t x) e

  four_alike : (i : ℕ) → i + 4 ≤ length s → four_of s i ≡ four_of t (from + i)
  four_alike i h = four_same s t i (from + i) (a i (omega arith)) (on i 1 (omega arith)) (on i 2 (omega arith)) (on i 3 (omega arith))

  pub alike_word : (i : ℕ) → i + 8 ≤ length s → word_of s i ≡ word_of t (from + i)
  unfolding word_of
  alike_word i h =
      let e : from + (i + 4) ≡ from + i + 4 = omega arith in
      ap₂ (λ (x y : ℕ). x + 4_294_967_296 * y) (four_alike i (omega arith)) (four_alike (i + 4) (omega arith) ∙ ap (four_of t) e)

-- ---- and back

parted : {a b x y : ℕ} → Fits w8 a → Fits w8 b → a + 256 * x ≡ b + 256 * y → (a ≡ b) × (x ≡ y)
parted h k e = (omega arith, omega arith)

small : (s : List ℕ) → Bytes s → (i : ℕ) → four_of s i < 4_294_967_296
small s w i = omega (arith, w i, w (i + 1), w (i + 2), w (i + 3))

both_fours : {a b x y : ℕ} → a < 4_294_967_296 → b < 4_294_967_296 → a + 4_294_967_296 * x ≡ b + 4_294_967_296 * y → (a ≡ b) × (x ≡ y)
both_fours h k e = (omega arith, omega arith)

module _ (s t : List ℕ) (u : Bytes s) (v : Bytes t) where
  -- the four bytes of equal numbers
  record Four (i j : ℕ) : Type 0 where
    first : slice_index_or s i 0 ≡ slice_index t j
    second : slice_index_or s (i + 1) 0 ≡ slice_index t (j + 1)
    third : slice_index_or s (i + 2) 0 ≡ slice_index t (j + 2)
    fourth : slice_index_or s (i + 3) 0 ≡ slice_index t (j + 3)

  four_bytes : (i j : ℕ) → four_of s i ≡ four_of t j → Four i j
  four_bytes i j e =
      let (a, p) = parted (u i) (v j) e in
      let (b, q) = parted (u (i + 1)) (v (j + 1)) p in
      let (c, d) = parted (u (i + 2)) (v (j + 2)) q in
      record { first = a; second = b; third = c; fourth = d }

  pub word_bytes : (i j : ℕ) → word_of s i ≡ word_of t j → (k : ℕ) → k < 8 → slice_index s (i + k) ≡ slice_index t (j + k)
  unfolding word_of
  word_bytes i j e = go
    where
      halves : (four_of s i ≡ four_of t j) × (four_of s (i + 4) ≡ four_of t (j + 4))
      halves = both_fours (small s u i) (small t v j) e

      low : Four i j
      low = four_bytes i j halves.0

      high : Four (i + 4) (j + 4)
      high = four_bytes (i + 4) (j + 4) halves.1

      moved : {a b c d : ℕ} → a ≡ c → b ≡ d → slice_index s a ≡ slice_index t b → slice_index s c ≡ slice_index t d
      moved p q r = sym (ap (λ (x : ℕ). slice_index s x) p) ∙ r ∙ ap (λ (x : ℕ). slice_index t x) q

      go : (k : ℕ) → k < 8 → slice_index s (i + k) ≡ slice_index t (j + k)
      go zero h = moved (omega arith) (omega arith) low.first
      go (suc zero) h = moved (omega arith) (omega arith) low.second
      go (suc (suc zero)) h = moved (omega arith) (omega arith) low.third
      go (suc (suc (suc zero))) h = moved (omega arith) (omega arith) low.fourth
      go (suc (suc (suc (suc zero)))) h = moved (omega arith) (omega arith) high.first
      go (suc (suc (suc (suc (suc zero))))) h = moved (omega arith) (omega arith) high.second
      go (suc (suc (suc (suc (suc (suc zero)))))) h = moved (omega arith) (omega arith) high.third
      go (suc (suc (suc (suc (suc (suc (suc zero))))))) h = moved (omega arith) (omega arith) high.fourth
      go (suc (suc (suc (suc (suc (suc (suc (suc k)))))))) h = absurd (omega arith)

-- ---- bytes passed, eight after eight

abbrev pub Passed : List ℕ → List ℕ → ℕ → ℕ → Type 0
Passed s t from i = (j : ℕ) → j < i → slice_index s j ≡ slice_index t (from + j)

module _ (s t : List ℕ) (u : Bytes s) (v : Bytes t) (from : ℕ) where
  eight : {w x : ℕ} (i : ℕ) → w ≡ word_of s i → x ≡ word_of t (from + i) → w ≡ x → (j : ℕ) → i ≤ j → j < i + 8 → slice_index s j ≡ slice_index t (from + j)
  eight i e f g j h k =
      let p : i + (j - i) ≡ j = omega arith in
      let q : from + i + (j - i) ≡ from + j = omega arith in
      sym (ap (λ (x : ℕ). slice_index s x) p) ∙ word_bytes s t u v i (from + i) (sym e ∙ g ∙ f) (j - i) (omega arith) ∙ ap (λ (x : ℕ). slice_index t x) q

  pub passed_on : {w x : ℕ} (i : ℕ) → Passed s t from i → w ≡ word_of s i → x ≡ word_of t (from + i) → w ≡ x → Passed s t from (i + 8)
  passed_on i p e f g j h = ⊎_elim (λ l. p j l) (λ l. eight i e f g j l h) (lt_or_ge j i)

  pub passed_all : {w x : ℕ} (i : ℕ) → 8 ≤ length s → length s - 8 ≤ i → Passed s t from i → w ≡ word_of s (length s - 8) → x ≡ word_of t (from + (length s - 8)) → w ≡ x → Alike s t from
  passed_all i n o p e f g j h = ⊎_elim (λ l. p j l) (λ l. eight (length s - 8) e f g j (omega arith) (omega arith)) (lt_or_ge j i)

pub word_differs : (s t : List ℕ) (from : ℕ) {w x : ℕ} (i : ℕ) → i + 8 ≤ length s → w ≡ word_of s i → x ≡ word_of t (from + i) → ¬ (w ≡ x) → ¬ Alike s t from
word_differs s t from i h e f n a = n (e ∙ alike_word s t from a i h ∙ sym f)
