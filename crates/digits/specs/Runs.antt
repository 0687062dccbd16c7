-- Laws of `Promise`: the digits at the front of a list, a reader that goes along them, and that what it finds is what `Numerals` says, both ways.
-- Assumes nothing.
use Rattle.std.specs.Prelude.{◌≡◌, ℕ, zero, suc, ◌+◌, ◌-◌, ◌*◌, ◌<◌, ◌≤◌, Bool, true, false, List, [], ◌∷◌, ◌++◌, length, take, drop, nat_le, slice_index, Result, Ok, Err}
use Rattle.std.proofs.Math.Path.{refl}
use Rattle.std.proofs.Common.{sym, ◌∙◌, ap, ap₂, subst, le_refl, add-one, arith, drop_of_length-le, drop-cons}
use borrow.Author.Tests.{le-leb, lt-leb, leb-true, leb-false, eq-eqb, ne_eqb}
use Rattle.digits.specs.Numerals.{value_from, value_of, Digit, Digits, Numeral, Leaves, Stops}
use Rattle.digits.specs.Promise.{pick, is_digit_value, front, left_at, run_from, run_of, ends_of}
use Rattle.digits.specs.declared.NoRun.{NoRun}
use Rattle.digits.specs.declared.NoRun.TheVariants as NoRun'

pub pick_yes : {A : Type 0} {t : Bool} (a b : A) → t ≡ true → pick t a b ≡ a
pick_yes a b e = ap (λ (x : Bool). pick x a b) e

pub pick_no : {A : Type 0} {t : Bool} (a b : A) → t ≡ false → pick t a b ≡ b
pick_no a b e = ap (λ (x : Bool). pick x a b) e

-- ---- the test of a digit

pub both : (s t : Bool) → pick s t false ≡ true → (s ≡ true) × (t ≡ true)
both true t e = (refl, e)
both false t e = let z : ◌≡◌ {A = ℕ} 0 1 = cc in absurd (omega arith)

pub digit_is : (b : ℕ) → is_digit_value b ≡ true → Digit b
digit_is b e = let h = both (nat_le 48 b) (nat_le b 57) e in record { low = leb-true 48 b h.0; high = leb-true b 57 h.1 }

pub is_digit : {b : ℕ} → Digit b → is_digit_value b ≡ true
is_digit {b} d = simp (le-leb 48 b d.low, le-leb b 57 d.high)

pub digit_not : (b : ℕ) → is_digit_value b ≡ false → Digit b → ⊥
digit_not b e d = let f : is_digit_value b ≡ true = is_digit d in let z : ◌≡◌ {A = ℕ} 0 1 = cc in omega arith

pub not_digit : (b : ℕ) → (Digit b → ⊥) → is_digit_value b ≡ false
not_digit b h = go (is_digit_value b) refl
  where
    go : (t : Bool) → is_digit_value b ≡ t → is_digit_value b ≡ false
    go true e = absurd (h (digit_is b e))
    go false e = e

-- ---- the front at a place

pub front_yes : (b : ℕ) (u : List ℕ) → is_digit_value b ≡ true → front (b ∷ u) ≡ b ∷ front u
front_yes b u e = ap (λ (t : Bool). pick t (b ∷ front u) []) e

pub front_no : (b : ℕ) (u : List ℕ) → is_digit_value b ≡ false → front (b ∷ u) ≡ []
front_no b u e = ap (λ (t : Bool). pick t (b ∷ front u) []) e

module _ (s : List ℕ) (i : ℕ) (within : i < length s) where
  pub at_cons : drop i s ≡ slice_index s i ∷ drop (i + 1) s
  at_cons = rw add-one (drop-cons s i 0 within)

  pub front_more : is_digit_value (slice_index s i) ≡ true → front (drop i s) ≡ slice_index s i ∷ front (drop (i + 1) s)
  front_more e = ap front at_cons ∙ front_yes (slice_index s i) (drop (i + 1) s) e

  pub front_stop : is_digit_value (slice_index s i) ≡ false → front (drop i s) ≡ []
  front_stop e = ap front at_cons ∙ front_no (slice_index s i) (drop (i + 1) s) e

pub front_end : (s : List ℕ) (i : ℕ) → length s ≤ i → front (drop i s) ≡ []
front_end s i h = ap front (drop_of_length-le s h)

-- ---- a run

pub value_grows : (n : ℕ) (s : List ℕ) → n ≤ value_from n s
value_grows n [] = le_refl n
value_grows n (b ∷ s) = omega (arith, value_grows (n * 10 + (b - 48)) s)

-- which answer a run of the digits p has
module _ (limit at : ℕ) where
  pub run_empty : run_from limit at [] ≡ Err NoRun'.Empty
  unfolding run_from
  run_empty = refl

  pub run_value : (p : List ℕ) → 0 < length p → value_of p ≤ limit → run_from limit at p ≡ Ok (value_of p, at + length p)
  unfolding run_from
  run_value [] h k = absurd (omega arith)
  run_value (b ∷ p) h k = pick_yes _ _ (le-leb _ _ k)

  pub run_over : (p : List ℕ) → limit < value_of p → run_from limit at p ≡ Err (NoRun'.Over (left_at limit 0 at p))
  unfolding run_from
  run_over [] k = absurd (omega arith)
  run_over (b ∷ p) k = pick_no _ _ (lt-leb _ _ k)

  -- a value that is told is in the range
  pub run_within : (p : List ℕ) {n next : ℕ} → run_from limit at p ≡ Ok (n, next) → n ≤ limit
  unfolding run_from
  run_within [] e = let z : ◌≡◌ {A = ℕ} 0 1 = cc in absurd (omega arith)
  run_within (b ∷ p) {n} {next} e = go (nat_le (value_of (b ∷ p)) limit) refl e
    where
      go : (t : Bool) → nat_le (value_of (b ∷ p)) limit ≡ t → pick {A = Result (ℕ × ℕ) NoRun} t (Ok (value_of (b ∷ p), at + length (b ∷ p))) (Err (NoRun'.Over (left_at limit 0 at (b ∷ p)))) ≡ Ok (n, next) → n ≤ limit
      go true k e =
          let q : ◌≡◌ {A = ℕ × ℕ} (value_of (b ∷ p), at + length (b ∷ p)) (n, next) = cc in
          let m : value_of (b ∷ p) ≡ n = ap (λ (x : ℕ × ℕ). x.0) q in
          omega (arith, leb-true (value_of (b ∷ p)) limit k)
      go false k e = let z : ◌≡◌ {A = ℕ} 0 1 = cc in absurd (omega arith)

  pub run_ends : (p : List ℕ) (n i : ℕ) → n ≡ value_of p → i ≡ at + length p → n ≤ limit → ends_of n at i ≡ run_from limit at p
  run_ends [] n i e h k = pick_yes _ _ (eq-eqb i at (omega arith)) ∙ sym run_empty
  run_ends (b ∷ p) n i e h k =
      pick_no _ _ (ne_eqb i at (λ q. omega arith)) ∙ ap₂ (λ (j k : ℕ). Ok (j, k)) e h ∙ sym (run_value (b ∷ p) (omega arith) (subst (λ (x : ℕ). x ≤ limit) e k))

-- at i, on the way from `at`: what is still to come takes n and i to the number and the place of the whole run
pub record Along (s : List ℕ) (at limit n i : ℕ) : Type 0 where
  pub small : n ≤ limit
  pub value : value_from n (front (drop i s)) ≡ value_of (front (drop at s))
  pub next : i + length (front (drop i s)) ≡ at + length (front (drop at s))
  pub left : left_at limit n i (front (drop i s)) ≡ left_at limit 0 at (front (drop at s))

pub along_start : (s : List ℕ) (at limit : ℕ) → Along s at limit 0 at
along_start s at limit = record { small = omega arith; value = refl; next = refl; left = refl }

module _ {s : List ℕ} {at limit n i : ℕ} (a : Along s at limit n i) where
  module _ (h : i < length s) (d : is_digit_value (slice_index s i) ≡ true) where
    more_value : value_from (n * 10 + (slice_index s i - 48)) (front (drop (i + 1) s)) ≡ value_of (front (drop at s))
    more_value = sym (ap (value_from n) (front_more s i h d)) ∙ a.value

    more_left : left_at limit n i (slice_index s i ∷ front (drop (i + 1) s)) ≡ left_at limit 0 at (front (drop at s))
    more_left = sym (ap (left_at limit n i) (front_more s i h d)) ∙ a.left

    pub along_step : n * 10 + (slice_index s i - 48) ≤ limit → Along s at limit (n * 10 + (slice_index s i - 48)) (i + 1)
    along_step k = record {
      small = k;
      value = more_value;
      next = omega (arith, ap length (front_more s i h d), a.next);
      left = sym (pick_yes _ _ (le-leb _ _ k)) ∙ more_left;
    }

    pub along_over : limit < n * 10 + (slice_index s i - 48) → Err (NoRun'.Over i) ≡ run_of limit at (drop at s)
    along_over k =
        ap (λ (k : ℕ). Err (NoRun'.Over k)) (sym (pick_no _ _ (lt-leb _ _ k)) ∙ more_left)
        ∙ sym (run_over limit at (front (drop at s)) (omega (arith, more_value, value_grows (n * 10 + (slice_index s i - 48)) (front (drop (i + 1) s)))))

  pub along_done : front (drop i s) ≡ [] → ends_of n at i ≡ run_of limit at (drop at s)
  along_done f = run_ends limit at (front (drop at s)) n i (sym (ap (value_from n) f) ∙ a.value) (omega (arith, ap length f, a.next)) a.small

-- ---- the digit at which a range is left, after digits that wrote n

record LeavesFrom (limit n : ℕ) (p : List ℕ) (k : ℕ) : Type 0 where
  pub stands : k < length p
  pub inside : (j : ℕ) → j ≤ k → value_from n (take j p) ≤ limit
  pub outside : limit < value_from n (take (suc k) p)

leaves_from : {limit : ℕ} {p : List ℕ} {k : ℕ} → Leaves limit p k → LeavesFrom limit 0 p k
leaves_from l = record { stands = l.stands; inside = l.inside; outside = l.outside }

-- at the first digit, or at a later one
module _ {limit n b : ℕ} (p : List ℕ) (h : n ≤ limit) where
  leaves_first : limit < n * 10 + (b - 48) → LeavesFrom limit n (b ∷ p) 0
  leaves_first g = record { stands = omega arith; inside = none; outside = g }
    where
      none : (j : ℕ) → j ≤ 0 → value_from n (take j (b ∷ p)) ≤ limit
      none zero i = h
      none (suc j) i = absurd (omega arith)

  leaves_later : {k : ℕ} → LeavesFrom limit (n * 10 + (b - 48)) p k → LeavesFrom limit n (b ∷ p) (suc k)
  leaves_later {k} l = record { stands = omega (arith, l.stands); inside = parts; outside = l.outside }
    where
      parts : (j : ℕ) → j ≤ suc k → value_from n (take j (b ∷ p)) ≤ limit
      parts zero i = h
      parts (suc j) i = l.inside j (omega arith)

-- numbers that are too large leave it somewhere
leaves_on : (limit n : ℕ) (p : List ℕ) → n ≤ limit → limit < value_from n p → (k : ℕ) × LeavesFrom limit n p k
leaves_on limit n [] h g = absurd (omega arith)
leaves_on limit n (b ∷ p) h g = go (nat_le (n * 10 + (b - 48)) limit) refl (λ i. leaves_on limit (n * 10 + (b - 48)) p i g)
  where
    go : (t : Bool) → nat_le (n * 10 + (b - 48)) limit ≡ t → (n * 10 + (b - 48) ≤ limit → (k : ℕ) × LeavesFrom limit (n * 10 + (b - 48)) p k)
        → (k : ℕ) × LeavesFrom limit n (b ∷ p) k
    go true e more = let (k, l) = more (leb-true _ _ e) in (suc k, leaves_later p h l)
    go false e more = (0, leaves_first p h (leb-false _ _ e))

pub leaves_some : (limit : ℕ) (p : List ℕ) → limit < value_of p → (k : ℕ) × Leaves limit p k
leaves_some limit p g = let (k, l) = leaves_on limit 0 p (omega arith) g in (k, record { stands = l.stands; inside = l.inside; outside = l.outside })

-- and a run tells at which digit
left_at_lem : {limit n : ℕ} (at : ℕ) {p : List ℕ} {k : ℕ} → LeavesFrom limit n p k → left_at limit n at p ≡ at + k
left_at_lem at {p = []} l = absurd (omega (arith, l.stands))
left_at_lem at {p = b ∷ p} {k = zero} l = pick_no _ _ (lt-leb _ _ l.outside) ∙ omega arith
left_at_lem {limit} {n} at {p = b ∷ p} {k = suc k} l =
    pick_yes _ _ (le-leb _ _ (l.inside 1 (omega arith)))
    ∙ left_at_lem {limit = limit} {n = n * 10 + (b - 48)} (at + 1) {p = p} {k = k} (record { stands = omega (arith, l.stands); inside = parts; outside = l.outside })
    ∙ omega arith
  where
    parts : (j : ℕ) → j ≤ k → value_from (n * 10 + (b - 48)) (take j p) ≤ limit
    parts j h = l.inside (suc j) (omega arith)

pub leaves_at : {limit : ℕ} (at : ℕ) {p : List ℕ} {k : ℕ} → Leaves limit p k → left_at limit 0 at p ≡ at + k
leaves_at at l = left_at_lem at (leaves_from l)

part_grows : (n : ℕ) (p : List ℕ) (j : ℕ) → value_from n (take j p) ≤ value_from n p
part_grows n p zero = value_grows n p
part_grows n [] (suc j) = le_refl n
part_grows n (b ∷ p) (suc j) = part_grows (n * 10 + (b - 48)) p j

pub leaves_large : {limit : ℕ} {p : List ℕ} {k : ℕ} → Leaves limit p k → limit < value_of p
leaves_large {limit} {p} {k} l = omega (arith, l.outside, part_grows 0 p (suc k))

-- ---- the digits that come first, and what comes after them

abbrev back : List ℕ → List ℕ
back [] = []
back (b ∷ s) = pick (is_digit_value b) (back s) (b ∷ s)

front_digits : (s : List ℕ) → Digits (front s)
front_digits [] = Digits.none
front_digits (b ∷ s) = go (is_digit_value b) refl (front_digits s)
  where
    go : (t : Bool) → is_digit_value b ≡ t → Digits (front s) → Digits (pick t (b ∷ front s) [])
    go true e ds = Digits.more (digit_is b e) ds
    go false e ds = Digits.none

front_back : (s : List ℕ) → front s ++ back s ≡ s
front_back [] = refl
front_back (b ∷ s) = go (is_digit_value b) (front_back s)
  where
    go : (t : Bool) → front s ++ back s ≡ s → pick t (b ∷ front s) [] ++ pick t (back s) (b ∷ s) ≡ b ∷ s
    go true ih = ap (λ (x : List ℕ). b ∷ x) ih
    go false ih = refl

back_stops : (s : List ℕ) → Stops (back s)
back_stops [] = Stops.ended
back_stops (b ∷ s) = go (is_digit_value b) refl (back_stops s)
  where
    go : (t : Bool) → is_digit_value b ≡ t → Stops (back s) → Stops (pick t (back s) (b ∷ s))
    go true e ih = ih
    go false e ih = Stops.other (digit_not b e)

stops_front : {u : List ℕ} → Stops u → front u ≡ []
stops_front Stops.ended = refl
stops_front (Stops.other {b} {u} h) = front_no b u (not_digit b h)

digits_front : {p u : List ℕ} → Digits p → Stops u → front (p ++ u) ≡ p
digits_front Digits.none st = stops_front st
digits_front {p} {u} (Digits.more {b} {s} d ds) st = front_yes b (s ++ u) (is_digit d) ∙ ap (λ (x : List ℕ). b ∷ x) (digits_front ds st)

-- ---- what a run says of the bytes u from `at` on, and that no other run says it

pub data RunView (limit at : ℕ) (u : List ℕ) : Result (ℕ × ℕ) NoRun → Type 0 where
  empty : Stops u → RunView limit at u (Err NoRun'.Empty)
  value : {p v : List ℕ} {n : ℕ} → u ≡ p ++ v → Numeral p n → Stops v → n ≤ limit → RunView limit at u (Ok (n, at + length p))
  over : {p v : List ℕ} {k : ℕ} → u ≡ p ++ v → Digits p → Stops v → Leaves limit p k → RunView limit at u (Err (NoRun'.Over (at + k)))

pub run_view : (limit at : ℕ) (u : List ℕ) → RunView limit at u (run_of limit at u)
unfolding run_from
run_view limit at u = go (front u) refl
  where
    go : (p : List ℕ) → front u ≡ p → RunView limit at u (run_from limit at p)
    go [] e = RunView.empty (subst Stops (sym (ap (λ (x : List ℕ). x ++ back u) e) ∙ front_back u) (back_stops u))
    go (b ∷ p) e = judge (nat_le (value_of (b ∷ p)) limit) refl
      where
        parted : u ≡ (b ∷ p) ++ back u
        parted = sym (sym (ap (λ (x : List ℕ). x ++ back u) e) ∙ front_back u)

        written : Numeral (b ∷ p) (value_of (b ∷ p))
        written = record { some = omega arith; digits = subst Digits e (front_digits u); writes = refl }

        judge : (t : Bool) → nat_le (value_of (b ∷ p)) limit ≡ t → RunView limit at u (pick t (Ok (value_of (b ∷ p), at + length (b ∷ p))) (Err (NoRun'.Over (left_at limit 0 at (b ∷ p)))))
        judge true h = RunView.value parted written (back_stops u) (leb-true _ _ h)
        judge false h =
            let (k, l) = leaves_some limit (b ∷ p) (leb-false _ _ h) in
            subst (λ (i : ℕ). RunView limit at u (Err (NoRun'.Over i))) (sym (leaves_at at l)) (RunView.over parted written.digits (back_stops u) l)

module _ (limit at : ℕ) where
  pub run_none : {u : List ℕ} → Stops u → run_of limit at u ≡ Err NoRun'.Empty
  run_none st = ap (run_from limit at) (stops_front st) ∙ run_empty limit at

  module _ {p u : List ℕ} {n : ℕ} (w : Numeral p n) (st : Stops u) where
    pub run_is : n ≤ limit → run_of limit at (p ++ u) ≡ Ok (n, at + length p)
    run_is h =
        ap (run_from limit at) (digits_front w.digits st)
        ∙ run_value limit at p w.some (subst (λ (k : ℕ). k ≤ limit) (sym w.writes) h)
        ∙ ap (λ (k : ℕ). Ok (k, at + length p)) w.writes

  pub run_leaves : {p u : List ℕ} {k : ℕ} → Digits p → Stops u → Leaves limit p k → run_of limit at (p ++ u) ≡ Err (NoRun'.Over (at + k))
  run_leaves {p} ds st l = ap (run_from limit at) (digits_front ds st) ∙ run_over limit at p (leaves_large l) ∙ ap (λ (k : ℕ). Err (NoRun'.Over k)) (leaves_at at l)
