-- Laws of `Reading`: which case holds at a place, and what is read there once the digits are known.
-- Assumes nothing.
use Rattle.std.specs.Prelude.{ℕ, zero, suc, ◌+◌, ◌≤◌, ◌<◌, ◌≡◌, Bool, length, get_or, drop, leb, ltb, ℤ, pos, Result, Ok, Err}
use Rattle.std.proofs.Math.Path.{refl, sym, ap}
use Rattle.std.proofs.Common.{◌∙◌, ap₂, subst, arith, drop_of_length-le, SFits, to_z, of_z, leb-true, leb-false, lt-ltb, le-ltb, eq-eqb, ne_eqb}
use Rattle.std.proofs.Math.Bool.{true, false}
use mathlib.Core.List.{List, [], ◌∷◌}
use Rattle.std.specs.Int.{w32}
use Rattle.refusals.specs.declared.Refusal.{Refusal}
use Rattle.refusals.specs.Promise.{refusal}
use Rattle.whole.specs.Machine.{back}
use Rattle.whole.specs.Promise.{signed_of, Narrows, fits}
use Rattle.whole.specs.One.{narrows_one}
use Rattle.digits.specs.Numerals.{plus, dash, value_of, Digit}
use Rattle.digits.specs.Promise.{pick, front, run_from, run_of}
use Rattle.digits.specs.Runs.{pick_yes, pick_no, at_cons, front_end, run_empty, run_value, run_within}
use Rattle.numbertext.specs.Reading.{placed, ended_at_value, no_number_value, to_number, read_number, the_number, limit_of, way_out_value, to_signed, signed_run_value, read_signed, the_signed, read_dash, the_dash, read_end, the_end}
use Rattle.whole.specs.declared.Outside.{Outside}
use Rattle.digits.specs.declared.NoRun.{NoRun}
use Rattle.digits.specs.declared.NoRun.TheVariants as NoRun'

-- ---- where a place stands

module _ {A : Type 0} (f : ℕ → List ℕ → Result A Refusal) (s : List ℕ) (at : ℕ) where
  pub placed_past : length s < at → placed f s at ≡ Err (refusal 16 0 (pos 0))
  unfolding placed
  placed_past h = pick_yes _ _ (lt-ltb _ _ h)

  pub placed_in : at ≤ length s → placed f s at ≡ f at (drop at s)
  unfolding placed
  placed_in h = pick_no _ _ (le-ltb _ _ h)

  pub placed_on : at < length s → placed f s at ≡ f at (get_or s at 0 ∷ drop (at + 1) s)
  placed_on h = placed_in (omega arith) ∙ ap (f at) (at_cons s at h)

  pub placed_end : (number : ℕ) → f at [] ≡ Err (refusal number at (pos 0)) → length s ≤ at → placed f s at ≡ Err (ended_at_value number s at)
  unfolding placed
  placed_end number e h = ap (λ (u : List ℕ). pick {A = Result A Refusal} (ltb (length s) at) (Err (refusal 16 0 (pos 0))) (f at u)) (drop_of_length-le s h) ∙ go (ltb (length s) at)
    where
      go : (t : Bool) → pick {A = Result A Refusal} t (Err (refusal 16 0 (pos 0))) (f at []) ≡ Err (pick t (refusal 16 0 (pos 0)) (refusal number at (pos 0)))
      go true = refl
      go false = e

-- ---- an unsigned number at a place, by the answer of the run

module _ (s : List ℕ) (at : ℕ) {r : Result (ℕ × ℕ) NoRun} (e : r ≡ run_of 4294967295 at (drop at s)) where
  number_by : at ≤ length s → the_number s at ≡ to_number at (drop at s) r
  unfolding read_number
  number_by h = placed_in read_number s at h ∙ ap (to_number at (drop at s)) (sym e)

  -- a run that is not empty lies within
  some_within : (r ≡ Err NoRun'.Empty → ⊥) → at ≤ length s
  some_within k = go (leb at (length s)) refl
    where
      go : (t : Bool) → leb at (length s) ≡ t → at ≤ length s
      go true q = leb-true _ _ q
      go false q = absurd (k (e ∙ ap (run_from 4294967295 at) (front_end s at (omega (arith, leb-false at (length s) q))) ∙ run_empty 4294967295 at))

  pub number_value : {n next : ℕ} → r ≡ Ok (n, next) → the_number s at ≡ Ok (n, next)
  number_value q = number_by (some_within (λ x. apart x)) ∙ ap (to_number at (drop at s)) q
    where
      apart : r ≡ Err NoRun'.Empty → ⊥
      apart x = let z : ◌≡◌ {A = ℕ} 0 1 = cc in omega arith

  pub number_over : {i : ℕ} → r ≡ Err (NoRun'.Over i) → the_number s at ≡ Err (refusal 11 i (pos 0))
  number_over q = number_by (some_within (λ x. apart x)) ∙ ap (to_number at (drop at s)) q
    where
      apart : r ≡ Err NoRun'.Empty → ⊥
      apart x = let z : ◌≡◌ {A = ℕ} 0 1 = cc in omega arith

  pub number_other : r ≡ Err NoRun'.Empty → at < length s → the_number s at ≡ Err (refusal 9 at (pos (get_or s at 0)))
  number_other q h = number_by (omega arith) ∙ ap (to_number at (drop at s)) q ∙ ap (λ (u : List ℕ). Err (no_number_value at u)) (at_cons s at h)

pub number_end : (s : List ℕ) (at : ℕ) → length s ≤ at → the_number s at ≡ Err (ended_at_value 8 s at)
unfolding read_number
number_end s at h = placed_end read_number s at 8 (ap (to_number at []) (run_empty 4294967295 at)) h

-- ---- a signed number

-- a magnitude in the range fits signed 32 bits
signed_fits : (neg : Bool) (n : ℕ) → n ≤ limit_of neg → SFits w32 (signed_of neg n)
unfolding signed_of
signed_fits true zero h = record { sfits = omega arith }
signed_fits true (suc n) h = record { sfits = omega arith }
signed_fits false n h = record { sfits = omega arith }

pub signed_none : (neg : Bool) (first : ℕ) (u : List ℕ) {f g : Refusal} → f ≡ g → signed_run_value neg first f u ≡ signed_run_value neg first g u
signed_none neg first u e = ap (λ (f : Refusal). signed_run_value neg first f u) e

-- the digits of a signed number, by the answer of the run
module _ (neg : Bool) (first : ℕ) (none : Refusal) (u : List ℕ) {limit : ℕ} {r : Result (ℕ × ℕ) NoRun} (l : limit ≡ limit_of neg) (e : r ≡ run_of limit first u) where
  pub signed_as : {q : Result (ℕ × ℕ) NoRun} → r ≡ q → signed_run_value neg first none u ≡ to_signed neg none q
  unfolding signed_run_value
  signed_as q = ap (to_signed neg none) (ap (λ (k : ℕ). run_of k first u) (sym l) ∙ sym e ∙ q)

  -- the range is left at i, on the side of the sign
  pub signed_over : {i way : ℕ} {f : Refusal} → r ≡ Err (NoRun'.Over i) → way ≡ way_out_value neg → f ≡ refusal way i (pos 0) → Err f ≡ signed_run_value neg first none u
  signed_over {i} q w is = ap Err (is ∙ ap (λ (way : ℕ). refusal way i (pos 0)) w) ∙ sym (signed_as q)

  -- the magnitude is in the range, so that the number is brought into 32 bits
  module _ {n next : ℕ} (v : r ≡ Ok (n, next)) {x : Result ℤ Outside} (w : Narrows (signed_of neg n) x) where
    within : n ≤ limit_of neg
    within = subst (λ (k : ℕ). n ≤ k) l (run_within limit first (front u) (sym e ∙ v))

    narrowed : x ≡ Ok (signed_of neg n)
    narrowed = narrows_one w (fits (signed_fits neg n within))

    pub signed_value : {y : ℤ} → x ≡ Ok y → Ok (to_z w32 (of_z w32 y), next) ≡ signed_run_value neg first none u
    signed_value {y} k =
        let is : y ≡ signed_of neg n = let f = narrowed in cc in
        ap (λ (z : ℤ). Ok (z, next)) (back is (signed_fits neg n within)) ∙ sym (signed_as v)

    pub never_outside : {why : Outside} → x ≡ Err why → {q : Result (ℤ × ℕ) Refusal} → q ≡ signed_run_value neg first none u
    never_outside k = let f = narrowed in let z : ◌≡◌ {A = ℕ} 0 1 = cc in absurd (omega arith)

module _ (s : List ℕ) (at : ℕ) (h : at < length s) where
  signed_on : the_signed s at ≡ read_signed at (get_or s at 0 ∷ drop (at + 1) s)
  signed_on = placed_on read_signed s at h

  pub signed_dash : get_or s at 0 ≡ dash → the_signed s at ≡ signed_run_value true (at + 1) (refusal 10 at (pos 0)) (drop (at + 1) s)
  unfolding read_signed
  signed_dash e = signed_on ∙ pick_yes _ _ (eq-eqb _ _ e)

  module _ (k : get_or s at 0 ≡ dash → ⊥) where
    pub signed_plus : get_or s at 0 ≡ plus → the_signed s at ≡ signed_run_value false (at + 1) (refusal 10 at (pos 0)) (drop (at + 1) s)
    unfolding read_signed
    signed_plus e = signed_on ∙ pick_no _ _ (ne_eqb _ _ k) ∙ pick_yes _ _ (eq-eqb _ _ e)

    pub signed_plain : (get_or s at 0 ≡ plus → ⊥) → the_signed s at ≡ signed_run_value false at (refusal 9 at (pos (get_or s at 0))) (drop at s)
    unfolding read_signed
    signed_plain l =
        signed_on ∙ pick_no _ _ (ne_eqb _ _ k) ∙ pick_no _ _ (ne_eqb _ _ l) ∙ ap (signed_run_value false at (refusal 9 at (pos (get_or s at 0)))) (sym (at_cons s at h))

pub signed_end : (s : List ℕ) (at : ℕ) → length s ≤ at → the_signed s at ≡ Err (ended_at_value 8 s at)
unfolding read_signed
signed_end s at h = placed_end read_signed s at 8 refl h

-- ---- a `-`, and the end

module _ (s : List ℕ) (at : ℕ) where
  pub dash_yes : at < length s → get_or s at 0 ≡ dash → the_dash s at ≡ Ok (at + 1)
  unfolding read_dash
  dash_yes h e = placed_on read_dash s at h ∙ pick_yes _ _ (eq-eqb _ _ e)

  pub dash_other : at < length s → (get_or s at 0 ≡ dash → ⊥) → the_dash s at ≡ Err (refusal 12 at (pos (get_or s at 0)))
  unfolding read_dash
  dash_other h e = placed_on read_dash s at h ∙ pick_no _ _ (ne_eqb _ _ e)

  pub dash_end : length s ≤ at → the_dash s at ≡ Err (ended_at_value 13 s at)
  unfolding read_dash
  dash_end h = placed_end read_dash s at 13 refl h

  pub end_over : at < length s → the_end s at ≡ Err (refusal 14 at (pos (get_or s at 0)))
  unfolding read_end
  end_over h = placed_on read_end s at h

  pub end_past : length s < at → the_end s at ≡ Err (refusal 16 0 (pos 0))
  end_past h = placed_past read_end s at h

  pub end_reached : at ≤ length s → length s ≤ at → the_end s at ≡ Ok tt
  unfolding read_end
  end_reached h k = placed_in read_end s at h ∙ ap (read_end at) (drop_of_length-le s k)

-- ---- the number n that the digits p write, and the place after them

pub number_of : (s : List ℕ) (at : ℕ) (p : List ℕ) {n next : ℕ} → front (drop at s) ≡ p → 0 < length p → n ≡ value_of p → next ≡ at + length p → n ≤ 4294967295
    → the_number s at ≡ Ok (n, next)
number_of s at p f h e k l =
    number_value s at refl (ap (run_from 4294967295 at) f ∙ run_value 4294967295 at p h (subst (λ (x : ℕ). x ≤ 4294967295) e l)) ∙ ap₂ (λ (j k : ℕ). Ok (j, k)) (sym e) (sym k)

pub signed_of_lem : (s : List ℕ) (p : List ℕ) {n next : ℕ} → 0 < length s → Digit (get_or s 0 0) → front (drop 0 s) ≡ p → 0 < length p → n ≡ value_of p → next ≡ length p
    → n ≤ 2147483647 → the_signed s 0 ≡ Ok (pos n, next)
unfolding signed_of
signed_of_lem s p h d f g e k l =
    signed_plain s 0 h (λ e. omega (arith, d.low)) (λ e. omega (arith, d.low))
    ∙ signed_as false 0 _ (drop 0 s) refl refl (ap (run_from 2147483647 0) f ∙ run_value 2147483647 0 p g (subst (λ (x : ℕ). x ≤ 2147483647) e l))
    ∙ ap₂ (λ (x i : ℕ). Ok (pos x, i)) (sym e) (omega arith)
