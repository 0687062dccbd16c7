-- A number with a digit more.
-- Assumes nothing.
use Rattle.std.specs.Prelude.{ℕ, ◌+◌, ◌-◌, ◌*◌, ◌<◌, ◌≤◌, ◌≡◌, refl, Bool, true, false, cond, List, [], ◌∷◌, ◌++◌, ltb, pos, Result, Err}
use Rattle.std.proofs.Common.{sym, ◌∙◌, ap, subst, append_assoc, ⊎_elim, arith, length-append, lt-ltb, le-ltb}
use Rattle.whole.specs.Tests.{lt_or_ge}
use Rattle.refusals.specs.declared.Refusal.{Refusal}
use Rattle.refusals.specs.Promise.{refusal}
use Rattle.digits.specs.Numerals.{value_from, value_of, Digit, Digits, Numeral}
use Rattle.digits.specs.Promise.{front}
use Rattle.digits.specs.Runs.{is_digit, front_yes, value_grows, run_over, leaves_large, RunView, run_view}
use Rattle.numbertext.specs.Numerals.{Unsigned, TooFar}
use Rattle.digits.specs.declared.NoRun.{NoRun}
use Rattle.digits.specs.declared.NoRun.TheVariants as NoRun'

-- ---- one digit more

snoc_value : (n : ℕ) (p : List ℕ) (b : ℕ) → value_from n (p ++ (b ∷ [])) ≡ value_from n p * 10 + (b - 48)
snoc_value n [] b = refl
snoc_value n (c ∷ p) b = snoc_value (n * 10 + (c - 48)) p b

snoc_digits : {p : List ℕ} {b : ℕ} → Digits p → Digit b → Digits (p ++ (b ∷ []))
snoc_digits Digits.none d = Digits.more d Digits.none
snoc_digits (Digits.more c ds) d = Digits.more c (snoc_digits ds d)

pub longer : {p : List ℕ} {n b : ℕ} → Numeral p n → Digit b → Numeral (p ++ (b ∷ [])) (n * 10 + (b - 48))
longer {p} {n} {b} w d = record {
  some = omega (arith, length-append p (b ∷ []));
  digits = snoc_digits w.digits d;
  writes = snoc_value 0 p b ∙ ap (λ (k : ℕ). k * 10 + (b - 48)) w.writes;
}

-- a number of one digit
pub single : {b : ℕ} → Digit b → Numeral (b ∷ []) (b - 48)
single d = record { some = omega arith; digits = Digits.more d Digits.none; writes = omega arith }

pub one : Unsigned (49 ∷ []) 1
one = record { numeral = single (record { low = omega arith; high = omega arith }); fits = omega arith }

-- ---- a digit more takes a number out of its range, whatever comes after it

front_on : {p : List ℕ} (u : List ℕ) → Digits p → front (p ++ u) ≡ p ++ front u
front_on u Digits.none = refl
front_on u (Digits.more {b} {s} d ds) = front_yes b (s ++ u) (is_digit d) ∙ ap (λ (x : List ℕ). b ∷ x) (front_on u ds)

value_on : (n : ℕ) (p q : List ℕ) → value_from n (p ++ q) ≡ value_from (value_from n p) q
value_on n [] q = refl
value_on n (b ∷ p) q = value_on (n * 10 + (b - 48)) p q

-- digits whose front is too large leave the range
over_far : (limit number at : ℕ) (u : List ℕ) → limit < value_of (front u) → (f : Refusal) × TooFar limit number at u f
over_far limit number at u large = by (run_view limit at u) (_, run_over limit at (front u) large)
  where
    by : {r : Result (ℕ × ℕ) NoRun} → RunView limit at u r → (i : ℕ) × (r ≡ Err (NoRun'.Over i)) → (f : Refusal) × TooFar limit number at u f
    by (RunView.empty st) (i, e) = let z : ◌≡◌ {A = ℕ} 0 1 = cc in absurd (omega arith)
    by (RunView.value x y z g) (i, e) = let q : ◌≡◌ {A = ℕ} 0 1 = cc in absurd (omega arith)
    by (RunView.over {k = k} x ds st l) e = (refusal number (at + k) (pos 0), subst (λ (y : List ℕ). TooFar limit number at y (refusal number (at + k) (pos 0))) (sym x) (TooFar.too_far ds st l))

pub too_far : (limit number at : ℕ) {p : List ℕ} {n b : ℕ} → Numeral p n → Digit b → limit < n * 10 + (b - 48) → (rest : List ℕ) → (f : Refusal) × TooFar limit number at (p ++ (b ∷ rest)) f
too_far limit number at {p} {n} {b} w d h rest = over_far limit number at (p ++ (b ∷ rest)) large
  where
    more : Numeral (p ++ (b ∷ [])) (n * 10 + (b - 48))
    more = longer w d

    large : limit < value_of (front (p ++ (b ∷ rest)))
    large =
        let e : value_of (front (p ++ (b ∷ rest))) ≡ value_from (n * 10 + (b - 48)) (front rest) =
        ap (λ (x : List ℕ). value_of (front x)) (sym (append_assoc p (b ∷ []) rest)) ∙ ap value_of (front_on rest more.digits) ∙ value_on 0 (p ++ (b ∷ [])) (front rest) ∙ ap (λ (k : ℕ). value_from k (front rest)) more.writes in
        omega (arith, e, value_grows (n * 10 + (b - 48)) (front rest))

-- and they do, whatever comes after them
pub far_on : {limit number at : ℕ} {u : List ℕ} {f : Refusal} → TooFar limit number at u f → (v : List ℕ) → (g : Refusal) × TooFar limit number at (u ++ v) g
far_on {limit} {number} {at} (TooFar.too_far {p} {u} ds st l) v = over_far limit number at ((p ++ u) ++ v) large
  where
    large : limit < value_of (front ((p ++ u) ++ v))
    large =
        let e : value_of (front ((p ++ u) ++ v)) ≡ value_from (value_of p) (front (u ++ v)) =
        ap (λ (x : List ℕ). value_of (front x)) (append_assoc p u v) ∙ ap value_of (front_on (u ++ v) ds) ∙ value_on 0 p (front (u ++ v)) in
        omega (arith, e, value_grows (value_of p) (front (u ++ v)), leaves_large l)

-- ---- how many of the ten digits keep a number in its range

abbrev pub digits_left_value : ℕ → ℕ → ℕ
digits_left_value limit n = cond (ltb limit (n * 10)) 0 (cond (ltb 10 (limit - n * 10 + 1)) 10 (limit - n * 10 + 1))

pub left_few : (limit n : ℕ) → digits_left_value limit n ≤ 10
left_few limit n = by (ltb limit (n * 10)) (⊎_elim (λ h. subst (λ (t : Bool). cond t 10 (limit - n * 10 + 1) ≤ 10) (sym (lt-ltb _ _ h)) (omega arith))
    (λ h. subst (λ (t : Bool). cond t 10 (limit - n * 10 + 1) ≤ 10) (sym (le-ltb _ _ h)) h) (lt_or_ge 10 (limit - n * 10 + 1)))
  where
    by : (t : Bool) {k : ℕ} → k ≤ 10 → cond t 0 k ≤ 10
    by true h = omega arith
    by false h = h

-- as the code counts them
module _ (limit n : ℕ) where
  pub left_none : limit < n * 10 → 0 ≡ digits_left_value limit n
  left_none h = sym (ap (λ (t : Bool). cond t 0 (cond (ltb 10 (limit - n * 10 + 1)) 10 (limit - n * 10 + 1))) (lt-ltb limit (n * 10) h))

  left_some : n * 10 ≤ limit → cond (ltb 10 (limit - n * 10 + 1)) 10 (limit - n * 10 + 1) ≡ digits_left_value limit n
  left_some h = sym (ap (λ (t : Bool). cond t 0 (cond (ltb 10 (limit - n * 10 + 1)) 10 (limit - n * 10 + 1))) (le-ltb limit (n * 10) h))

  pub left_ten : n * 10 ≤ limit → 10 < limit - n * 10 + 1 → 10 ≡ digits_left_value limit n
  left_ten h k = sym (ap (λ (t : Bool). cond t 10 (limit - n * 10 + 1)) (lt-ltb 10 (limit - n * 10 + 1) k)) ∙ left_some h

  pub left_fewer : n * 10 ≤ limit → limit - n * 10 + 1 ≤ 10 → limit - n * 10 + 1 ≡ digits_left_value limit n
  left_fewer h k = sym (ap (λ (t : Bool). cond t 10 (limit - n * 10 + 1)) (le-ltb 10 (limit - n * 10 + 1) k)) ∙ left_some h
