-- Laws of `Hash`: which way each name goes, and that eight equal bytes are what makes two words equal.
use Rattle.std.specs.Prelude.{◌≡◌, ℕ, suc, ◌+◌, ◌-◌, ◌*◌, ◌/◌, ◌<◌, ◌≤◌, List, length, slice_index, refl}
use Rattle.std.proofs.Math.Path.{sym, ap, ap₂}
use Rattle.std.proofs.Common.{◌∙◌, arith, le-leb, lt-ltb, le-ltb}
use Rattle.std.proofs.lemmas.Bool.{lt-leb}
use Rattle.digits.specs.Runs.{pick_yes, pick_no}
use Rattle.nametable.specs.Limits.{heads}
use Rattle.nametable.specs.Hash.{four_of, word_of, mix_of, few_of, words_of, many_of, chain_of_value, bucket_of_value}

module _ (s : List ℕ) where
  pub few_four : {a b : ℕ} → 4 ≤ length s → a ≡ four_of s 0 → b ≡ four_of s (length s - 4) → a + 4_294_967_296 * b ≡ few_of s
  unfolding few_of
  few_four h e f = ap₂ (λ (x y : ℕ). x + 4_294_967_296 * y) e f ∙ sym (pick_yes _ _ (le-leb _ _ h))

  pub few_none : length s < 4 → length s < 1 → 0 ≡ few_of s
  unfolding few_of
  few_none h k = sym (pick_no _ _ (lt-leb _ _ h) ∙ pick_yes _ _ (lt-ltb _ _ k))

  pub few_some : {a b c : ℕ} → length s < 4 → 1 ≤ length s → a ≡ slice_index s 0 → b ≡ slice_index s (length s / 2) → c ≡ slice_index s (length s - 1) → a + 256 * b + 65_536 * c ≡ few_of s
  unfolding few_of
  few_some h k e f g = ap₂ (λ (x y : ℕ). x + 65_536 * y) (ap₂ (λ (x y : ℕ). x + 256 * y) e f) g ∙ sym (pick_no _ _ (lt-leb _ _ h) ∙ pick_no _ _ (le-ltb _ _ k))

  pub short_chain : {f m : ℕ} → length s < 8 → f ≡ few_of s → m ≡ mix_of (length s) f → chain_of_value m ≡ bucket_of_value s
  unfolding bucket_of_value
  short_chain h e g = ap chain_of_value (g ∙ ap (mix_of (length s)) e ∙ sym (pick_yes _ _ (lt-ltb _ _ h)))

  pub long_chain : {m : ℕ} → 8 ≤ length s → m ≡ many_of s → chain_of_value m ≡ bucket_of_value s
  unfolding bucket_of_value
  long_chain h e = ap chain_of_value (e ∙ sym (pick_no _ _ (le-ltb _ _ h)))

-- ---- eight bytes after eight

pub record Mixing (s : List ℕ) (h i : ℕ) : Type 0 where
  pub turn : ℕ
  pub place : i ≡ 8 * turn
  pub inside : i < length s
  pub is : h ≡ words_of s turn

pub mixing_start : (s : List ℕ) → 8 ≤ length s → Mixing s (length s) 0
unfolding words_of
mixing_start s h = record { turn = 0; place = omega arith; inside = omega arith; is = refl }

module _ {s : List ℕ} {h i : ℕ} (m : Mixing s h i) where
  pub mixing_on : {w g : ℕ} → i + 8 < length s → w ≡ word_of s i → g ≡ mix_of h w → Mixing s g (i + 8)
  unfolding words_of
  mixing_on l e f = record { turn = suc m.turn; place = omega (arith, m.place); inside = l; is = f ∙ ap₂ mix_of m.is (e ∙ ap (word_of s) m.place) }

  pub mixing_done : {w g : ℕ} → 8 ≤ length s → length s - 8 ≤ i → w ≡ word_of s (length s - 8) → g ≡ mix_of h w → g ≡ many_of s
  unfolding many_of
  mixing_done k l e f =
      let t : m.turn ≡ (length s - 1) / 8 = omega (arith, m.place, m.inside) in
      f ∙ ap₂ mix_of (m.is ∙ ap (words_of s) t) e

pub bucket_small : (s : List ℕ) → bucket_of_value s < heads
unfolding bucket_of_value
bucket_small s = omega arith
