-- What the proofs need: the parts of a line, where its name ends, its digits, and its number in 32 bits.
use Rattle.std.specs.Prelude.{ℕ, zero, suc, ◌+◌, ◌≤◌, ◌<◌, ◌^◌, ◌≡◌, refl, Bool, true, false, List, [], ◌∷◌, ◌++◌, ◌⊎◌, length, get_or, take, drop, ℤ, pos, neg_ℤ, Result, Ok, Err, MatchResult, IsErrAnd}
use Rattle.std.proofs.Common.{sym, ◌∙◌, ap, ap₂, subst, append_assoc, append-nil, inl, inr, ⊎_elim, arith, length-append, length-drop, take_at, drop_at, drop-cons, length-take-le, to_z, of_z, to_z-of_z}
use Rattle.std.specs.Bool.{MatchBool}
use Rattle.std.specs.Char.{IsAsciiDigit, IsNotAsciiDigit}
use Rattle.std.specs.Int.{w32}
use Rattle.std.specs.List.{AllWithin, HoldsAt}
use Rattle.whole.specs.Tests.{lt_or_ge}
use Rattle.whole.specs.Whether.{Whether}
use Rattle.bytesearch.specs.Promise.{Without, UpTo}
use Rattle.bytesearch.specs.One.{never, parted_one, never_parted}
use Rattle.digits.specs.Numerals.{dash, Digit, Digits, Numeral, Stops, value_of}
use Rattle.refusals.specs.declared.Refusal.{Refusal}
use Rattle.refusals.specs.Promise.{refusal}
use Rattle.refusals.specs.Passed.{passed_on}
use Rattle.digits.specs.Runs.{leaves_some}
use Rattle.numbertext.specs.Numerals.{Signed, TooFar, NoSigned}
use Rattle.numbertext.specs.Promise.{SignedFrom, SignedAt, At}
use Rattle.numbertext.specs.Meaning.{signed_complete}
use Rattle.houseline.specs.Form.{Letter, capital, digit, underscore, Letters, Name, Written, Form, form}
use Rattle.houseline.specs.declared.House.{House}
use Rattle.houseline.specs.declared.NoHouse.{NoHouse}
use Rattle.whole.specs.Text.{tab}
use Rattle.textlines.specs.Lines.{longest_read}
use Rattle.houseline.specs.Promise.{Fits32, LeavesAfter, house_read, Reads, reads, outside, malformed}

-- ---- letters

pub letter_not_tab : {b : ℕ} → Letter b → b ≡ tab → ⊥
letter_not_tab (capital h k) e = omega arith
letter_not_tab (digit d) e = omega (arith, d.low)
letter_not_tab underscore e = omega arith

pub letters_without : {s : List ℕ} → Letters s → Without tab s
letters_without Letters.none = Without.none
letters_without (Letters.more l ls) = Without.more (letter_not_tab l) (letters_without ls)

letter_from : {b : ℕ} → Letter b → 48 ≤ b
letter_from (capital h k) = omega arith
letter_from (digit d) = d.low
letter_from underscore = omega arith

pub below_letters : {b : ℕ} → Letter b → b < 48 → ⊥
below_letters l h = omega (arith, letter_from l)

letter_gap : {b : ℕ} → Letter b → 57 < b → 65 ≤ b
letter_gap (capital h k) g = h
letter_gap (digit d) g = absurd (omega (arith, d.high))
letter_gap underscore g = omega arith

pub in_the_gap : {b : ℕ} → Letter b → 57 < b → b < 65 → ⊥
in_the_gap l g h = omega (arith, letter_gap l g)

pub letter_last : {b : ℕ} → Letter b → 90 < b → b ≡ 95
letter_last (capital h k) g = absurd (omega arith)
letter_last (digit d) g = absurd (omega (arith, d.high))
letter_last underscore g = refl

-- the first n bytes are letters
abbrev pub Lettered : List ℕ → ℕ → Type 0
Lettered s n = Letters (take n s)

-- ---- each byte of s was looked at, up to the first that is no P: `Ps s` says that each is P

module _ {P : ℕ → Type 0} {Ps : List ℕ → Type 0} (none : Ps []) (more : (b : ℕ) (s : List ℕ) → P b → Ps s → Ps (b ∷ s)) (parts : (b : ℕ) (s : List ℕ) → Ps (b ∷ s) → P b × Ps s) where
  from_each : (s : List ℕ) → ((k : ℕ) → k < length s → P (get_or s k 0)) → Ps s
  from_each [] f = none
  from_each (b ∷ s) f = more b s (f 0 (omega arith)) (from_each s (λ k h. f (suc k) (omega arith)))

  to_each : (s : List ℕ) (k : ℕ) → k < length s → Ps s → P (get_or s k 0)
  to_each [] k h p = absurd (omega arith)
  to_each (b ∷ s) zero h p = (parts b s p).0
  to_each (b ∷ s) (suc k) h p = to_each s k (omega arith) (parts b s p).1

  told : (s : List ℕ) (r : Bool) → MatchBool r (AllWithin P s 0 (length s)) ((k : ℕ) × (k < length s) × HoldsAt (λ b. ¬ P b) s k) → Whether (Ps s) r
  told s true f = from_each s (λ k h. f k 0 (omega arith) h)
  told s false (k, h, o) = λ p. o 0 (to_each s k h p)

letters_parts : (b : ℕ) (s : List ℕ) → Letters (b ∷ s) → Letter b × Letters s
letters_parts b s (Letters.more l ls) = (l, ls)

digits_parts : (b : ℕ) (s : List ℕ) → Digits (b ∷ s) → Digit b × Digits s
digits_parts b s (Digits.more d ds) = (d, ds)

pub letters_told : (s : List ℕ) (r : Bool) → MatchBool r (AllWithin Letter s 0 (length s)) ((k : ℕ) × (k < length s) × HoldsAt (λ b. ¬ Letter b) s k) → Whether (Letters s) r
letters_told s r = told Letters.none (λ b t. Letters.more) letters_parts s r

pub digits_told : (s : List ℕ) (r : Bool) → MatchBool r (AllWithin Digit s 0 (length s)) ((k : ℕ) × (k < length s) × HoldsAt (λ b. ¬ Digit b) s k) → Whether (Digits s) r
digits_told s r = told Digits.none (λ b t. Digits.more) digits_parts s r

pub is_digit : {b : ℕ} → IsAsciiDigit b → Digit b
is_digit h = record { low = h.0; high = h.1 }

pub no_digit : {b : ℕ} → IsNotAsciiDigit b → ¬ Digit b
no_digit h d = omega (arith, d.low, d.high, h)

pub not_low : {b : ℕ} → Digit b → b < 48 → ⊥
not_low d h = omega (arith, d.low)

pub not_high : {b : ℕ} → Digit b → 57 < b → ⊥
not_high d h = omega (arith, d.high)

-- ---- a number: the digits after a `-` or without one

pub data DigitsFrom : List ℕ → List ℕ → Type 0 where
  dashed : {p : List ℕ} → DigitsFrom (dash ∷ p) p
  bare : {u : List ℕ} → ((p : List ℕ) → ¬ (u ≡ dash ∷ p)) → DigitsFrom u u

pub record Numerals (p : List ℕ) : Type 0 where
  pub some : 0 < length p
  pub digits : Digits p

pub numerals_told : (s : List ℕ) (r : Bool) → 0 < length s → Whether (Digits s) r → Whether (Numerals s) r
numerals_told s true h d = record { some = h; digits = d }
numerals_told s false h o = λ n. o n.digits

abbrev pub IsWritten : List ℕ → Type 0
IsWritten u = (z : ℤ) × Written u z

numeral : {p : List ℕ} → Numerals p → Numeral p (value_of p)
numeral n = record { some = n.some; digits = n.digits; writes = refl }

pub is_written : {u p : List ℕ} → DigitsFrom u p → Numerals p → IsWritten u
is_written dashed n = (_, Written.with_dash (numeral n))
is_written (bare o) n = (_, Written.plain (numeral n))

pub digits_no_dash : {p : List ℕ} → Digits p → (q : List ℕ) → p ≡ dash ∷ q → ⊥
digits_no_dash Digits.none q e = let z : ◌≡◌ {A = ℕ} 0 1 = cc in never z
digits_no_dash (Digits.more {b} d ds) q e = let f : b ≡ dash = cc in omega (arith, d.low)

written_numerals : {u p v : List ℕ} {z : ℤ} → u ≡ v → Written u z → DigitsFrom v p → Numerals p
written_numerals e (Written.plain w) dashed = absurd (digits_no_dash w.digits _ e)
written_numerals e (Written.plain w) (bare o) = subst Numerals e (record { some = w.some; digits = w.digits })
written_numerals e (Written.with_dash {p = q} w) (dashed {p}) = let f : q ≡ p = cc in subst Numerals f (record { some = w.some; digits = w.digits })
written_numerals e (Written.with_dash {p = q} w) (bare o) = absurd (o q (sym e))

pub not_written : {u p : List ℕ} → DigitsFrom u p → ¬ Numerals p → ¬ IsWritten u
not_written d o (z, w) = o (written_numerals refl w d)

-- a `-` that stands at a place, or does not
pub dash_here : (s : List ℕ) (at : ℕ) → at < length s → get_or s at 0 ≡ dash → DigitsFrom (drop at s) (drop (at + 1) s)
dash_here s at h e =
    let f : suc at ≡ at + 1 = omega arith in
    subst (λ (x : List ℕ). DigitsFrom x (drop (at + 1) s)) (sym (drop-cons s at 0 h ∙ ap₂ (λ (b k : ℕ). b ∷ drop k s) e f)) dashed

pub dash_other : (s : List ℕ) (at : ℕ) → at < length s → ¬ (get_or s at 0 ≡ dash) → DigitsFrom (drop at s) (drop at s)
dash_other s at h o = bare {u = drop at s} (λ p e. let f : get_or s at 0 ∷ drop (suc at) s ≡ dash ∷ p = sym (drop-cons s at 0 h) ∙ e in o cc)

pub dash_end : (s : List ℕ) (at : ℕ) → length s ≤ at → DigitsFrom (drop at s) (drop at s)
dash_end s at h = bare {u = drop at s} (λ p e. omega (arith, ap length e, length-drop at s))

-- ---- the number in 32 bits

below_fits : (n : ℕ) → n ≤ 2 ^ 31 → Fits32 (neg_ℤ (pos n))
below_fits zero h = record { sfits = omega arith }
below_fits (suc n) h = record { sfits = omega arith }

below_not : (n : ℕ) → 2 ^ 31 < n → ¬ Fits32 (neg_ℤ (pos n))
below_not zero h f = omega arith
below_not (suc n) h f = omega (arith, f.sfits)

-- what a written number is, as a number at `at`
data Written32 (at : ℕ) (u : List ℕ) (z : ℤ) : Result (ℤ × ℕ) Refusal → Type 0 where
  inside : {next : ℕ} → Fits32 z → Written32 at u z (Ok (z, next))
  leaves : {f : Refusal} → ¬ Fits32 z → NoSigned at u f → Written32 at u z (Err f)

record Read32 (at : ℕ) (u : List ℕ) (z : ℤ) : Type 0 where
  result : Result (ℤ × ℕ) Refusal
  read : SignedFrom at u result
  is : Written32 at u z result

-- its digits p leave the range
too_far : {p : List ℕ} {n : ℕ} (limit number at : ℕ) → Numeral p n → limit < n → (f : Refusal) × TooFar limit number at p f
too_far {p} limit number at w h =
    let (k, l) = leaves_some limit p (subst (λ (x : ℕ). limit < x) (sym w.writes) h) in
    (_, subst (λ (x : List ℕ). TooFar limit number at x (refusal number (at + k) (pos 0))) (append-nil p) (TooFar.too_far w.digits Stops.ended l))

numbered : {at : ℕ} {u : List ℕ} {z : ℤ} → Signed u z → Fits32 z → Read32 at u z
numbered {at} {u} {z} w f = record {
  result = Ok (z, at + length u);
  read = subst (λ (x : List ℕ). SignedFrom at x (Ok (z, at + length u))) (append-nil u) (SignedFrom.number w Stops.ended);
  is = inside f;
}

refused : {at : ℕ} {u : List ℕ} {z : ℤ} {f : Refusal} → ¬ Fits32 z → NoSigned at u f → Read32 at u z
refused {f = f} o n = record { result = Err f; read = SignedFrom.no_number n; is = leaves o n }

written_32 : (at : ℕ) {u : List ℕ} {z : ℤ} → Written u z → Read32 at u z
written_32 at (Written.plain {n = n} w) = ⊎_elim
    (λ h. numbered (Signed.plain w h) (record { sfits = omega arith }))
    (λ h. let (f, t) = too_far 2147483647 11 at w (omega arith) in refused (λ g. omega (arith, g.sfits)) (NoSigned.above t))
    (lt_or_ge n (2 ^ 31))
written_32 at (Written.with_dash {n = n} w) = ⊎_elim
    (λ h. let (f, t) = too_far 2147483648 28 (at + 1) w h in refused (below_not n h) (NoSigned.below_dash t))
    (λ h. numbered (Signed.with_dash w h) (below_fits n h))
    (lt_or_ge (2 ^ 31) n)

-- what is read is that
signed_read : {at : ℕ} {u : List ℕ} {z : ℤ} {r : Result (ℤ × ℕ) Refusal} → Written u z → SignedFrom at u r → Written32 at u z r
signed_read {at} {u} {z} w s = let q = written_32 at w in subst (Written32 at u z) (sym (signed_complete q.read) ∙ signed_complete s) q.is

pub leaves_one : {at : ℕ} {u : List ℕ} {f g : Refusal} → NoSigned at u f → NoSigned at u g → f ≡ g
leaves_one {f = f} {g} a b = let e : Err f ≡ Err g = sym (signed_complete (SignedFrom.no_number a)) ∙ signed_complete (SignedFrom.no_number b) in cc

-- what comes of a line whose name ends at `end`, and whose number is written in u
pub data Outcome (u : List ℕ) (end : ℕ) : Result House NoHouse → Type 0 where
  fits : {z : ℤ} → Written u z → Fits32 z → Outcome u end (house_read end z)
  big : {z : ℤ} {f : Refusal} → Written u z → NoSigned (end + 1) u f → Outcome u end (Err (NoHouse.Outside f))

at_place : {s : List ℕ} {at : ℕ} {r : Result (ℤ × ℕ) Refusal} → at ≤ length s → SignedAt s at r → SignedFrom at (drop at s) r
at_place h (At.past k) = absurd (omega arith)
at_place h (At.within k f) = f

-- what was read, with a refusal as that of a number that is outside
abbrev Told : Result (ℤ × ℕ) Refusal → Result (ℤ × ℕ) NoHouse → Type 0
Told r t = MatchResult r (λ (x : ℤ × ℕ). t ≡ Ok x) (λ (f : Refusal). IsErrAnd t (λ (e : NoHouse). e ≡ NoHouse.Outside f))

-- and with the number as that of the line
abbrev pub numbered_house : ℕ → Result (ℤ × ℕ) NoHouse → Result House NoHouse
numbered_house end (Ok x) = house_read end (to_z w32 (of_z w32 x.0))
numbered_house end (Err e) = Err e

pub outcome_is : {s : List ℕ} {end : ℕ} {r : Result (ℤ × ℕ) Refusal} (t : Result (ℤ × ℕ) NoHouse) → end < length s → IsWritten (drop (end + 1) s) → SignedAt s (end + 1) r → Told r t → Outcome (drop (end + 1) s) end (numbered_house end t)
outcome_is {s} {end} t h w a m = by w.1 (signed_read w.1 (at_place (omega arith) a)) m
  where
    by : {u : List ℕ} {z : ℤ} {r : Result (ℤ × ℕ) Refusal} → Written u z → Written32 (end + 1) u z r → Told r t → Outcome u end (numbered_house end t)
    by {u} v (inside f) m = subst (λ (x : Result (ℤ × ℕ) NoHouse). Outcome u end (numbered_house end x)) (sym m) (subst (λ (y : ℤ). Outcome u end (house_read end y)) (sym (to_z-of_z f)) (fits v f))
    by {u} v (leaves o n) m = subst (λ (x : Result (ℤ × ℕ) NoHouse). Outcome u end (numbered_house end x)) (sym (passed_on t m)) (big v n)

pub written_by : {u p : List ℕ} (b : Bool) → DigitsFrom u p → Whether (Numerals p) b → Whether (IsWritten u) b
written_by true d n = is_written d n
written_by false d o = not_written d o

-- ---- the parts of a line whose first tab is at k

pub record Parts (l : List ℕ) (k : ℕ) : Type 0 where
  pub is : l ≡ take k l ++ (tab ∷ drop (k + 1) l)
  pub without : Without tab (take k l)

pub parts : {l : List ℕ} {k : ℕ} → UpTo tab l 0 k → k < length l → Parts l k
parts {l} {k} (UpTo.stands {q} u e w p) h =
    let a : take k l ≡ q = ap (take k) e ∙ take_at q (tab ∷ u) k (omega arith) in
    let b : drop (k + 1) l ≡ u = ap (drop (k + 1)) (e ∙ sym (append_assoc q (tab ∷ []) u)) ∙ drop_at (q ++ (tab ∷ [])) u (k + 1) (length-append q (tab ∷ []) ∙ omega arith) in
    record { is = e ∙ sym (ap₂ (λ (x y : List ℕ). x ++ (tab ∷ y)) a b); without = subst (Without tab) (sym a) w }
parts {l} {k} (UpTo.ends {q} e w p) h = absurd (omega (arith, ap length e))

pub no_tab : {l : List ℕ} {k : ℕ} → UpTo tab l 0 k → length l ≤ k → Without tab l
no_tab {l} {k} (UpTo.stands {q} u e w p) h = absurd (omega (arith, ap length e, length-append q (tab ∷ u)))
no_tab {l} {k} (UpTo.ends {q} e w p) h = subst (Without tab) (sym e) w

-- ---- a form is taken apart

pub form_parts : {l name : List ℕ} {z : ℤ} → Form l name z → (text : List ℕ) × (l ≡ name ++ (tab ∷ text)) × Name name × Written text z × (length l ≤ longest_read)
form_parts (form {text = text} n w h) = (text, refl, n, w, h)

after_tab : {l : List ℕ} (name text : List ℕ) → l ≡ name ++ (tab ∷ text) → drop (length name + 1) l ≡ text
after_tab name text e =
    ap (drop (length name + 1)) (e ∙ sym (append_assoc name (tab ∷ []) text)) ∙ drop_at (name ++ (tab ∷ [])) text (length name + 1) (length-append name (tab ∷ []) ∙ omega arith)

-- its number fits 32 bits, or leaves them, and not both
pub fits_or_leaves : {l name : List ℕ} {z : ℤ} → Form l name z → Fits32 z ⊎ ((f : Refusal) × LeavesAfter l (length name) f)
fits_or_leaves {name = name} g =
    let (text, e, n, w, h) = form_parts g in by e (written_32 (length name + 1) w).is
  where
    by : {l text : List ℕ} {z : ℤ} {r : Result (ℤ × ℕ) Refusal} → l ≡ name ++ (tab ∷ text) → Written32 (length name + 1) text z r → Fits32 z ⊎ ((f : Refusal) × LeavesAfter l (length name) f)
    by e (inside k) = inl k
    by {text = text} e (leaves {f} o k) = inr (f, subst (λ (x : List ℕ). NoSigned (length name + 1) x f) (sym (after_tab name text e)) k)

pub fits_leaves : {l name : List ℕ} {z : ℤ} {f : Refusal} → Form l name z → Fits32 z → LeavesAfter l (length name) f → ⊥
fits_leaves {name = name} {f = f} g k t =
    let (text, e, n, w, h) = form_parts g in
    by k (signed_read w (SignedFrom.no_number (subst (λ (x : List ℕ). NoSigned (length name + 1) x f) (after_tab name text e) t)))
  where
    by : {at : ℕ} {u : List ℕ} {z : ℤ} → Fits32 z → Written32 at u z (Err f) → ⊥
    by k (leaves o n) = o k

-- and it leaves them in the line
no_number_place : {at : ℕ} {u : List ℕ} {f : Refusal} → NoSigned at u f → f.place ≤ at + length u
no_number_place NoSigned.ended = omega arith
no_number_place (NoSigned.other h k l) = omega arith
no_number_place (NoSigned.bare_plus st) = omega arith
no_number_place (NoSigned.bare_dash st) = omega arith
no_number_place (NoSigned.above (TooFar.too_far {p} {u} ds st l)) = omega (arith, l.stands, length-append p u)
no_number_place (NoSigned.above_plus (TooFar.too_far {p} {u} ds st l)) = omega (arith, l.stands, length-append p u)
no_number_place (NoSigned.below_dash (TooFar.too_far {p} {u} ds st l)) = omega (arith, l.stands, length-append p u)

pub leaves_place : {l name : List ℕ} {z : ℤ} {f : Refusal} → Form l name z → LeavesAfter l (length name) f → f.place ≤ longest_read
leaves_place {l} {name} g t =
    let (text, e, n, w, h) = form_parts g in
    omega (arith, no_number_place t, ap length (after_tab name text e), ap length e, length-append name (tab ∷ text))

-- at its first tab
pub form_split : {l q u name : List ℕ} {z : ℤ} → l ≡ q ++ (tab ∷ u) → Without tab q → Form l name z → (name ≡ q) × Name q × Written u z × (length l ≤ longest_read)
form_split {z = z} e w f =
    let (text, d, n, v, h) = form_parts f in
    let (a, b) = parted_one (letters_without n.letters) w (sym d ∙ e) in
    (a, subst Name a n, subst (λ (x : List ℕ). Written x z) b v, h)

pub form_long : {l : List ℕ} → longest_read < length l → (name : List ℕ) (z : ℤ) → ¬ Form l name z
form_long h name z f = let (text, d, n, v, k) = form_parts f in omega arith

pub form_no_tab : {l : List ℕ} → Without tab l → (name : List ℕ) (z : ℤ) → ¬ Form l name z
form_no_tab w name z f = let (text, d, n, v, h) = form_parts f in never_parted name text w (sym d)

module _ {l : List ℕ} (q u : List ℕ) (e : l ≡ q ++ (tab ∷ u)) (w : Without tab q) where
  pub form_no_name : ¬ Name q → (name : List ℕ) (z : ℤ) → ¬ Form l name z
  form_no_name o name z f = let (a, n, v, h) = form_split e w f in o n

  pub form_no_number : ¬ IsWritten u → (name : List ℕ) (z : ℤ) → ¬ Form l name z
  form_no_number o name z f = let (a, n, v, h) = form_split e w f in o (z, v)

  pub form_of : {z : ℤ} → Name q → Written u z → length l ≤ longest_read → Form l q z
  form_of {z} n v h = subst (λ (x : List ℕ). Form x q z) (sym e) (form n v (subst (λ (x : List ℕ). length x ≤ longest_read) e h))

-- what the reader finds
pub reads_outcome : {l : List ℕ} {k : ℕ} {r : Result House NoHouse} → Parts l k → k ≤ length l → Name (take k l) → length l ≤ longest_read → Outcome (drop (k + 1) l) k r → Reads l r
reads_outcome {l} {k} p i n h (fits {z} w f) = subst (λ (x : ℕ). Reads l (house_read x z)) (length-take-le k l i) (reads (form_of (take k l) (drop (k + 1) l) p.is p.without n w h) f)
reads_outcome {l} {k} p i n h (big {f = f} w t) =
    outside (form_of (take k l) (drop (k + 1) l) p.is p.without n w h) (subst (λ (x : ℕ). LeavesAfter l x f) (sym (length-take-le k l i)) t)

pub reads_no_name : {l : List ℕ} {k : ℕ} → Parts l k → ¬ Name (take k l) → Reads l (Err NoHouse.Malformed)
reads_no_name {l} {k} p o = malformed (form_no_name (take k l) (drop (k + 1) l) p.is p.without o)

pub reads_no_number : {l : List ℕ} {k : ℕ} → Parts l k → ¬ IsWritten (drop (k + 1) l) → Reads l (Err NoHouse.Malformed)
reads_no_number {l} {k} p o = malformed (form_no_number (take k l) (drop (k + 1) l) p.is p.without o)
