-- One digit and two at a place: what `Promise` computes of them, and the run that they begin.
-- Assumes nothing.
use Rattle.std.specs.Prelude.{◌≡◌, ℕ, ◌+◌, ◌-◌, ◌*◌, ◌%◌, ◌^◌, ◌<◌, ◌≤◌, Bool, true, false, List, [], ◌∷◌, length, drop, nat_le, nat_lt, slice_index, slice_index_or}
use Rattle.std.proofs.Math.Path.{refl, sym, ap₂}
use Rattle.std.proofs.Common.{◌∙◌, ap}
use native.Mathlib.Omega.{arith}
use borrow.Author.Tests.{lt-ltb, le-ltb, ltb-true, ltb-false, leb-true, leb-false}
use Rattle.digits.specs.Numerals.{dash, Digit}
use Rattle.digits.specs.Promise.{pick, front, digit_of, pair_value, pair_of}
use Rattle.digits.specs.Runs.{pick_yes, pick_no, is_digit, not_digit, front_more, front_stop}

-- ---- one digit, and two

-- r is the digit at a place, and what the two digits at a place write
pub record DigitIs (s : List ℕ) (at r : ℕ) : Type 0 where
  pub within : at < length s
  pub digit : Digit (slice_index s at)
  pub is : r ≡ slice_index s at - 48

pub record PairIs (s : List ℕ) (at r : ℕ) : Type 0 where
  pub within : at + 1 < length s
  pub tens : Digit (slice_index s at)
  pub ones : Digit (slice_index s (at + 1))
  pub is : r ≡ (slice_index s at - 48) * 10 + (slice_index s (at + 1) - 48)

module _ (s : List ℕ) (at : ℕ) where
  pub digit_past : length s ≤ at → 10 ≡ digit_of s at
  unfolding digit_of
  digit_past h = sym (pick_no _ _ (le-ltb _ _ h))

  -- d is the byte less 48, as the machine computes it
  pub digit_here : at < length s → (d : ℕ) → (d + 48) % 2 ^ 32 ≡ slice_index s at → d < 2 ^ 32 → d ≡ digit_of s at
  unfolding digit_of
  digit_here h d e f = go (nat_le 48 (slice_index s at)) refl ∙ sym (pick_yes _ _ (lt-ltb _ _ h))
    where
      go : (t : Bool) → nat_le 48 (slice_index s at) ≡ t → d ≡ pick t (slice_index s at - 48) (slice_index s at + 4294967248)
      go true k = omega (arith, leb-true 48 (slice_index s at) k)
      go false k = omega (arith, leb-false 48 (slice_index s at) k)

module _ (s : List ℕ) (at : ℕ) {a : ℕ} (p : a ≡ digit_of s at) where
  pub digit_seen : a < 10 → DigitIs s at a
  unfolding digit_of
  digit_seen h = go (nat_lt at (length s)) (nat_le 48 (slice_index s at)) refl refl p
    where
      go : (t u : Bool) → nat_lt at (length s) ≡ t → nat_le 48 (slice_index s at) ≡ u → a ≡ pick t (pick u (slice_index s at - 48) (slice_index s at + 4294967248)) 10 → DigitIs s at a
      go true true w i e =
          let low : 48 ≤ slice_index_or s at 0 = leb-true 48 (slice_index s at) i in
          record { within = ltb-true at (length s) w; digit = record { low = low; high = omega arith }; is = e }
      go true false w i e = absurd (omega arith)
      go false u w i e = absurd (omega arith)

  pub pair_first : 9 < a → 100 ≡ pair_of s at
  unfolding pair_of
  pair_first h = sym (ap (λ (x : ℕ). pair_value x (digit_of s (at + 1))) (sym p) ∙ pick_yes _ _ (lt-ltb _ _ h))

  module _ {b : ℕ} (q : b ≡ digit_of s (at + 1)) (h : a ≤ 9) where
    pair_both : pair_of s at ≡ pick (nat_lt 9 b) 100 (a * 10 + b)
    unfolding pair_of
    pair_both = ap₂ pair_value (sym p) (sym q) ∙ pick_no _ _ (le-ltb _ _ h)

    pub pair_second : 9 < b → 100 ≡ pair_of s at
    pair_second k = sym (pair_both ∙ pick_yes _ _ (lt-ltb _ _ k))

    pub pair_yes : b ≤ 9 → a * 10 + b ≡ pair_of s at
    pair_yes k = sym (pair_both ∙ pick_no _ _ (le-ltb _ _ k))

pub pair_seen : (s : List ℕ) (at : ℕ) {r : ℕ} → r ≡ pair_of s at → r < 100 → PairIs s at r
unfolding pair_of
pair_seen s at {r} p h = go (nat_lt 9 (digit_of s at)) (nat_lt 9 (digit_of s (at + 1))) refl refl p
  where
    go : (t u : Bool) → nat_lt 9 (digit_of s at) ≡ t → nat_lt 9 (digit_of s (at + 1)) ≡ u
        → r ≡ pick t 100 (pick u 100 (digit_of s at * 10 + digit_of s (at + 1))) → PairIs s at r
    go true u w v e = absurd (omega arith)
    go false true w v e = absurd (omega arith)
    go false false w v e =
        let x : DigitIs s at (digit_of s at) = digit_seen s at refl (omega (arith, ltb-false 9 (digit_of s at) w)) in
        let y : DigitIs s (at + 1) (digit_of s (at + 1)) = digit_seen s (at + 1) refl (omega (arith, ltb-false 9 (digit_of s (at + 1)) v)) in
        record { within = y.within; tens = x.digit; ones = y.digit; is = omega (arith, x.is, y.is) }

-- ---- the digits from a place on

module _ {s : List ℕ} {at r : ℕ} where
  pub digit_front : DigitIs s at r → {p : List ℕ} → front (drop (at + 1) s) ≡ p → front (drop at s) ≡ slice_index s at ∷ p
  digit_front d f = front_more s at d.within (is_digit d.digit) ∙ ap (λ (l : List ℕ). slice_index s at ∷ l) f

  pub pair_front : PairIs s at r → {p : List ℕ} → front (drop (at + 2) s) ≡ p → front (drop at s) ≡ slice_index s at ∷ (slice_index s (at + 1) ∷ p)
  pair_front d f =
      let second : at + 1 + 1 ≡ at + 2 = omega arith in
      front_more s at (omega (arith, d.within)) (is_digit d.tens)
      ∙ ap (λ (l : List ℕ). slice_index s at ∷ l)
      (front_more s (at + 1) d.within (is_digit d.ones) ∙ ap (λ (l : List ℕ). slice_index s (at + 1) ∷ l) (ap (λ (k : ℕ). front (drop k s)) second ∙ f))

pub dash_front : (s : List ℕ) (at : ℕ) → at < length s → slice_index s at ≡ dash → front (drop at s) ≡ []
dash_front s at h e = front_stop s at h (not_digit (slice_index s at) (λ d. omega (arith, d.low)))
