-- Bytes passed one after another.
use Rattle.std.specs.Prelude.{ℕ, zero, suc, ◌+◌, ◌≤◌, ◌<◌, ◌≡◌, refl, List, [], ◌∷◌, ◌++◌, length, get_or, take, drop, ◌==◌, not, position, unwrap_or}
use Rattle.std.specs.List.{position_or_len}
use Rattle.std.proofs.Common.{sym, ◌∙◌, ap, subst, append_assoc, append-nil, add-zero, arith, length-append, length-take, length-drop, drop-cons}
use Rattle.std.specs.Int.Bits.{bit_or, or_add_and}
use Rattle.std.proofs.lemmas.Bool.{eqb-true, eqb-false}
use Rattle.std.proofs.lemmas.Bool.Decides.{nat_tests}
use Rattle.std.proofs.lemmas.List.{get_or-take, get_or-drop}
use Rattle.std.proofs.lemmas.List.Sums.{prefix_len-le-length, fails_before_first, passes_at_first}
use Rattle.std.proofs.lemmas.Nat.{and_le_l, and_le_r}
use Rattle.bytesearch.specs.Promise.{Without, UpTo}

-- ---- no byte from `from` up to i is b

pub record Going (b : ℕ) (s : List ℕ) (from i : ℕ) : Type 0 where
  pub passed : List ℕ
  pub is : drop from s ≡ passed ++ drop i s
  pub without : Without b passed
  pub offset : i ≡ from + length passed

pub without_both : {b : ℕ} {p q : List ℕ} → Without b p → Without b q → Without b (p ++ q)
without_both Without.none v = v
without_both (Without.more n w) v = Without.more n (without_both w v)

pub going_start : (b : ℕ) (s : List ℕ) (from : ℕ) → Going b s from from
going_start b s from = record { passed = []; is = refl; without = Without.none; offset = omega arith }

pub none_left : (l : List ℕ) → length l ≤ 0 → l ≡ []
none_left [] h = refl
none_left (x ∷ l) h = absurd (omega arith)

module _ {b : ℕ} {s : List ℕ} {from i : ℕ} (g : Going b s from i) where
  far : {r : ℕ} (q : List ℕ) → r ≡ i + length q → r ≡ from + length (g.passed ++ q)
  far q p = omega (arith, p, g.offset, length-append g.passed q)

  -- and none from there up to j
  pub going_further : {j : ℕ} → Going b s i j → Going b s from j
  going_further {j} f =
      record {
        passed = g.passed ++ f.passed;
        is = g.is ∙ ap (λ (x : List ℕ). g.passed ++ x) f.is ∙ sym (append_assoc g.passed f.passed (drop j s));
        without = without_both g.without f.without;
        offset = far f.passed f.offset;
      }

  pub going_on : i < length s → (get_or s i 0 ≡ b → ⊥) → Going b s from (i + 1)
  going_on h n = going_further (record { passed = get_or s i 0 ∷ []; is = drop-cons s i 0 h ∙ ap (λ (k : ℕ). get_or s i 0 ∷ drop k s) one_on; without = Without.more n Without.none; offset = refl })
    where
      one_on : suc i ≡ i + 1
      one_on = omega arith

  pub going_found : i < length s → get_or s i 0 ≡ b → UpTo b s from i
  going_found h e = UpTo.stands (drop (suc i) s) (g.is ∙ ap (λ (x : List ℕ). g.passed ++ x) (drop-cons s i 0 h ∙ ap (λ (x : ℕ). x ∷ drop (suc i) s) e)) g.without g.offset

  pub going_ended : length s ≤ i → UpTo b s from i
  going_ended h = UpTo.ends (g.is ∙ ap (λ (x : List ℕ). g.passed ++ x) (none_left (drop i s) (omega (arith, length-drop i s))) ∙ append-nil g.passed) g.without g.offset

  -- what is found from there on is found from the beginning
  pub going_then : {r : ℕ} → UpTo b s i r → UpTo b s from r
  going_then (UpTo.stands {q} u e w p) = UpTo.stands u (g.is ∙ ap (λ (x : List ℕ). g.passed ++ x) e ∙ sym (append_assoc g.passed q (b ∷ u))) (without_both g.without w) (far q p)
  going_then (UpTo.ends {q} e w p) = UpTo.ends (g.is ∙ ap (λ (x : List ℕ). g.passed ++ x) e) (without_both g.without w) (far q p)

-- the offset that is found lies in the bytes, or at their end
pub up_to_inside : {b : ℕ} {s : List ℕ} {from r : ℕ} → UpTo b s from r → from ≤ length s → (from ≤ r) × (r ≤ length s)
up_to_inside {b} {s} {from} (UpTo.stands {q} u e w p) h = (omega arith, omega (arith, ap length e, length-append q (b ∷ u), length-drop from s))
up_to_inside {b} {s} {from} (UpTo.ends {q} e w p) h = (omega arith, omega (arith, ap length e, length-drop from s))

-- ---- four bytes from `at` on, of which k come before the first b

pub record InFour (b : ℕ) (s : List ℕ) (at k : ℕ) : Type 0 where
  pub going : Going b s at (at + k)
  pub few : k ≤ 4
  pub found : k < 4 → get_or s (at + k) 0 ≡ b

one_on : (i k : ℕ) → i + k + 1 ≡ i + suc k
one_on i k = omega arith

-- none of the k bytes from `at` on is b
pub going_past : {b : ℕ} {s : List ℕ} {at : ℕ} (k : ℕ) → at + k ≤ length s → ((j : ℕ) → j < k → get_or s (at + j) 0 ≡ b → ⊥) → Going b s at (at + k)
going_past {b} {s} {at} zero h n = subst (Going b s at) (sym (add-zero at)) (going_start b s at)
going_past {b} {s} {at} (suc k) h n = subst (Going b s at) (one_on at k) (going_on (going_past k (omega arith) (λ j l. n j (omega arith))) (omega arith) (n k (omega arith)))

-- l is the four bytes from `at` on
module _ (s : List ℕ) (at : ℕ) {l : List ℕ} (e : l ≡ take 4 (drop at s)) where
  four_long : at + 4 ≤ length s → length l ≡ 4
  four_long h = omega (arith, ap length e, length-take 4 (drop at s), length-drop at s)

  four_byte : (j : ℕ) → j < 4 → get_or l j 0 ≡ get_or s (at + j) 0
  four_byte j m = ap (λ (x : List ℕ). get_or x j 0) e ∙ get_or-take 4 (drop at s) j 0 m ∙ get_or-drop at s j 0

  four_place : {b k : ℕ} → at + 4 ≤ length s → k ≡ position_or_len (λ x. x == b) l → InFour b s at k
  four_place {b} {k} h f =
      record {
        going = going_past k (omega (arith, few)) (λ j m g. eqb-false (get_or l j 0) b (fails_before_first (λ x. x == b) l j 0 (omega arith)) (four_byte j (omega (arith, few)) ∙ g));
        few = few;
        found = λ m. sym (four_byte k m) ∙ ap (λ (i : ℕ). get_or l i 0) f ∙ eqb-true _ b (passes_at_first (λ x. x == b) l 0 (omega (arith, four_long h)));
      }
    where
      few : k ≤ 4
      few = omega (arith, f, four_long h, prefix_len-le-length (λ x. not (x == b)) l)

  pub in_four_place : {b k : ℕ} → at + 4 ≤ length s → k ≡ unwrap_or (position (λ x. x == b) l) 4 → InFour b s at k
  in_four_place {b} h f = four_place h (f ∙ by (four_long h))
    where
      by : length l ≡ 4 → unwrap_or (position (λ x. x == b) l) 4 ≡ position_or_len (λ x. x == b) l
      by n = grind (arith, nat_tests, prefix_len-le-length)

-- the four are passed one after another
module _ {b : ℕ} {s : List ℕ} {at : ℕ} (h : at + 4 ≤ length s) (n : get_or s at 0 ≡ b → ⊥) where
  past_one : Going b s at (at + 1)
  past_one = going_on (going_start b s at) (omega arith) n

  next : (k : ℕ) → k < 4 → Going b s at (at + k) → (get_or s (at + k) 0 ≡ b → ⊥) → Going b s at (at + suc k)
  next k l g m = subst (Going b s at) (one_on at k) (going_on g (omega arith) m)

  pub past_four : (get_or s (at + 1) 0 ≡ b → ⊥) → (get_or s (at + 2) 0 ≡ b → ⊥) → (get_or s (at + 3) 0 ≡ b → ⊥) → Going b s at (at + 4)
  past_four m o p = next 3 (omega arith) (next 2 (omega arith) (next 1 (omega arith) past_one m) o) p

-- b is among the four bytes, or all four are passed
module _ {b : ℕ} {s : List ℕ} {from i k : ℕ} (g : Going b s from i) (f : InFour b s i k) where
  pub four_found : i + 4 ≤ length s → k < 4 → UpTo b s from (i + k)
  four_found h l = going_then g (going_found f.going (omega arith) (f.found l))

  pub four_passed : 4 ≤ k → Going b s from (i + 4)
  four_passed l = let e : k ≡ 4 = omega (arith, f.few) in going_further g (subst (λ (j : ℕ). Going b s i (i + j)) e f.going)

pub eight_passed : {b : ℕ} {s : List ℕ} {from i k m : ℕ} → Going b s from i → InFour b s i k → 4 ≤ k → InFour b s (i + 4) m → 4 ≤ m → Going b s from (i + 8)
eight_passed {b} {s} {from} {i} g f h e l = subst (Going b s from) (sum i) (four_passed (four_passed g f h) e l)
  where
    sum : (i : ℕ) → i + 4 + 4 ≡ i + 8
    sum i = omega arith

-- every offset before r has eight bytes of n from there on
abbrev pub Eights : ℕ → ℕ → Type 0
Eights n r = (i : ℕ) → i < r → i + 8 ≤ n

-- every offset before r has sixteen bytes of n from there on
abbrev pub Sixteens : ℕ → ℕ → Type 0
Sixteens n r = (i : ℕ) → i < r → i + 16 ≤ n

-- ---- answers that are 0 where a byte is not there, taken together

or_left : (a b : ℕ) → bit_or a b ≡ 0 → a ≡ 0
or_left a b e = omega (arith, e, or_add_and a b, and_le_r a b, and_le_l a b)

or_right : (a b : ℕ) → bit_or a b ≡ 0 → b ≡ 0
or_right a b e = omega (arith, e, or_add_and a b, and_le_l a b, and_le_r a b)

pub or_none : (a b c d : ℕ) → bit_or (bit_or (bit_or a b) c) d ≡ 0 → (a ≡ 0) × (b ≡ 0) × (c ≡ 0) × (d ≡ 0)
or_none a b c d e =
    let l : bit_or (bit_or a b) c ≡ 0 = or_left (bit_or (bit_or a b) c) d e in
    let m : bit_or a b ≡ 0 = or_left (bit_or a b) c l in
    (or_left a b m, or_right a b m, or_right (bit_or a b) c l, or_right (bit_or (bit_or a b) c) d e)

-- four times four bytes are passed
pub fours_passed : {b : ℕ} {s : List ℕ} {at : ℕ} → Going b s at (at + 4) → Going b s (at + 4) (at + 4 + 4) → Going b s (at + 8) (at + 8 + 4) → Going b s (at + 12) (at + 12 + 4) → Going b s at (at + 16)
fours_passed {b} {s} {at} f g h k = subst (Going b s at) (sum at 12 4 16 (omega arith)) (going_further (on 8 12 (omega arith) h (on 4 8 (omega arith) g f)) k)
  where
    sum : (i j k n : ℕ) → j + k ≡ n → i + j + k ≡ i + n
    sum i j k n e = omega arith

    on : (j n : ℕ) → j + 4 ≡ n → Going b s (at + j) (at + j + 4) → Going b s at (at + j) → Going b s at (at + n)
    on j n e x y = subst (Going b s at) (sum at j 4 n e) (going_further y x)
