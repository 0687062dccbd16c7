-- What the first fault of a front says of what could follow it: 8, 10 and 13 may be mended by what follows, any other stays.
-- Assumes nothing.
use Rattle.std.specs.Prelude.{ℕ, zero, suc, ◌+◌, ◌<◌, ◌≤◌, ◌≡◌, refl, Bool, true, false, cond, List, [], ◌∷◌, ◌++◌, length, eqb, ℤ, pos, negsuc, nat_abs, Result, Ok, Err}
use Rattle.std.proofs.Common.{sym, ap, subst, append_assoc, append-nil, arith, SFits}
use Rattle.std.specs.Int.{w32}
use Rattle.whole.specs.Promise.{is_negative_value}
use Rattle.refusals.specs.declared.Refusal.{Refusal}
use Rattle.digits.specs.Numerals.{dash, Stops}
use Rattle.numbertext.specs.Numerals.{Signed, TooFar, NoNumber, NoSigned, NoDash}
use Rattle.numbertext.specs.Promise.{SignedFrom, SignedAt, At}
use Rattle.numbertext.specs.One.{signed_one}
use Rattle.datetext.specs.Grammar.{OrdinalText, YmdText, Fault}
use Rattle.datetext.specs.Promise.{ReadDate}
use Rattle.datetext.specs.declared.Text.{Text}
use Rattle.days.specs.DayByDay.{Month}
use Rattle.whole.specs.Whether.{Whether}
use Rattle.datetext.proofs.Theorems.{never_both}
use Rattle.expected.specs.Promise.{Expects}
use Rattle.expected.specs.Numbers.{far_on, digits_left_value}
use Rattle.expected.specs.Fronts.{expects, nothing_expects, start_expects, plus_expects, dash_expects, YearSoFar, year_expects, second_start_expects, second_expects, third_start_expects, third_expects}

-- ---- a fault that stays, whatever follows

abbrev Still : List ℕ → Type 0
Still u = (v : List ℕ) → (g : Refusal) × Fault (u ++ v) g

-- of what stands after p, and after p, a `-` and q
after : (p w : List ℕ) (v : List ℕ) → (g : Refusal) × Fault (p ++ (w ++ v)) g → (g : Refusal) × Fault ((p ++ w) ++ v) g
after p w v (g, h) = (g, subst (λ (x : List ℕ). Fault x g) (sym (append_assoc p w v)) h)

after_two : (p q w : List ℕ) (v : List ℕ) → (g : Refusal) × Fault (p ++ (dash ∷ (q ++ (w ++ v)))) g → (g : Refusal) × Fault ((p ++ (dash ∷ (q ++ w))) ++ v) g
after_two p q w v (g, h) = after p (dash ∷ (q ++ w)) v (g, subst (λ (x : List ℕ). Fault (p ++ (dash ∷ x)) g) (sym (append_assoc q w v)) h)

after_three : (p q t w : List ℕ) (v : List ℕ) → (g : Refusal) × Fault (p ++ (dash ∷ (q ++ (dash ∷ (t ++ (w ++ v)))))) g → (g : Refusal) × Fault ((p ++ (dash ∷ (q ++ (dash ∷ (t ++ w))))) ++ v) g
after_three p q t w v (g, h) = after_two p q (dash ∷ (t ++ w)) v (g, subst (λ (x : List ℕ). Fault (p ++ (dash ∷ (q ++ (dash ∷ x)))) g) (sym (append_assoc t w v)) h)

-- ---- by the number of the fault

abbrev lasting : ℕ → Bool
lasting n = cond (eqb n 8) false (cond (eqb n 10) false (cond (eqb n 13) false true))

pub data Says (u : List ℕ) : ℕ → Type 0 where
  at_start : u ≡ [] → Says u 8
  number_wanted : Expects u (expects 10 false false false) → Says u 8
  sign_alone : length u < 2 → Expects u (expects 10 false false false) → Says u 10
  sign_then : 2 ≤ length u → Still u → Says u 10
  dash_wanted : {y : ℤ} → Signed u y → Says u 13
  stays : {n : ℕ} → lasting n ≡ true → Still u → Says u n

pub says : {u : List ℕ} {f : Refusal} → Fault u f → Says u f.number
says (Fault.at_year NoSigned.ended) = Says.at_start refl
says (Fault.at_year (NoSigned.other i j k)) = Says.stays refl (λ v. (_, Fault.at_year (NoSigned.other i j k)))
says (Fault.at_year (NoSigned.bare_plus Stops.ended)) = Says.sign_alone (omega arith) plus_expects
says (Fault.at_year (NoSigned.bare_plus (Stops.other i))) = Says.sign_then (omega arith) (λ v. (_, Fault.at_year (NoSigned.bare_plus (Stops.other i))))
says (Fault.at_year (NoSigned.bare_dash Stops.ended)) = Says.sign_alone (omega arith) dash_expects
says (Fault.at_year (NoSigned.bare_dash (Stops.other i))) = Says.sign_then (omega arith) (λ v. (_, Fault.at_year (NoSigned.bare_dash (Stops.other i))))
says (Fault.at_year (NoSigned.above (TooFar.too_far ds st l))) = Says.stays refl (λ v. let (g, w) = far_on (TooFar.too_far ds st l) v in (g, Fault.at_year (NoSigned.above w)))
says (Fault.at_year (NoSigned.above_plus (TooFar.too_far ds st l))) = Says.stays refl (λ v. let (g, w) = far_on (TooFar.too_far ds st l) v in (g, Fault.at_year (NoSigned.above_plus w)))
says (Fault.at_year (NoSigned.below_dash (TooFar.too_far ds st l))) = Says.stays refl (λ v. let (g, w) = far_on (TooFar.too_far ds st l) v in (g, Fault.at_year (NoSigned.below_dash w)))
says (Fault.at_dash {p} s (Stops.other {b = x} {u = w} i) (NoDash.other j)) = Says.stays refl (λ v. after p (x ∷ w) v (_, Fault.at_dash s (Stops.other i) (NoDash.other j)))
says (Fault.at_dash {p} {y = y} s st NoDash.ended) = Says.dash_wanted (subst (λ (x : List ℕ). Signed x y) (sym (append-nil p)) s)
says (Fault.at_second s NoNumber.ended) = Says.number_wanted (second_start_expects s)
says (Fault.at_second {p} s (NoNumber.other {b = x} {u = w} i)) = Says.stays refl (λ v. after p (dash ∷ (x ∷ w)) v (_, Fault.at_second s (NoNumber.other i)))
says (Fault.at_second {p} s (NoNumber.above (TooFar.too_far {p = q} {u = w} ds st l))) =
    Says.stays refl (λ v. let (g, z) = far_on (TooFar.too_far ds st l) v in after p (dash ∷ (q ++ w)) v (g, Fault.at_second s (NoNumber.above z)))
says (Fault.at_month {p} {q} {u = w} {b = x} s m (Stops.other i) bad) = Says.stays refl (λ v. after_two p q (x ∷ w) v (_, Fault.at_month s m (Stops.other i) bad))
says (Fault.at_second_dash {p} {q} {u = w} {b = x} s m mo (Stops.other i) (NoDash.other j)) =
    Says.stays refl (λ v. after_two p q (x ∷ w) v (_, Fault.at_second_dash s m mo (Stops.other i) (NoDash.other j)))
says (Fault.at_third s m mo NoNumber.ended) = Says.number_wanted (third_start_expects s m mo)
says (Fault.at_third {p} {q} s m mo (NoNumber.other {b = x} {u = w} i)) = Says.stays refl (λ v. after_two p q (dash ∷ (x ∷ w)) v (_, Fault.at_third s m mo (NoNumber.other i)))
says (Fault.at_third {p} {q} s m mo (NoNumber.above (TooFar.too_far {p = t} {u = w} ds st l))) =
    Says.stays refl (λ v. let (g, z) = far_on (TooFar.too_far ds st l) v in after_two p q (dash ∷ (t ++ w)) v (g, Fault.at_third s m mo (NoNumber.above z)))
says (Fault.left_over {p} {q} {t} {u = w} {b = x} s m mo d (Stops.other i)) = Says.stays refl (λ v. after_three p q t (x ∷ w) v (_, Fault.left_over s m mo d (Stops.other i)))

-- ---- what could follow

still_expects : {u : List ℕ} → Still u → Expects u (expects 0 false false false)
still_expects w = nothing_expects (λ v g. never_both g (w v).1)

lasts : {n k : ℕ} → n ≡ k → lasting n ≡ true → lasting k ≡ true
lasts e h = subst (λ (x : ℕ). lasting x ≡ true) e h

never : ◌≡◌ {A = Bool} false true → ⊥
never e = let z : ◌≡◌ {A = ℕ} 0 1 = cc in omega arith

pub eight_expects : {u : List ℕ} {n : ℕ} → Says u n → n ≡ 8 → 1 ≤ length u → Expects u (expects 10 false false false)
eight_expects (Says.at_start i) e h = absurd (omega (arith, ap length i))
eight_expects (Says.number_wanted w) e h = w
eight_expects (Says.sign_alone k w) e h = absurd (omega arith)
eight_expects (Says.sign_then k w) e h = absurd (omega arith)
eight_expects (Says.dash_wanted s) e h = absurd (omega arith)
eight_expects (Says.stays k w) e h = absurd (never (lasts e k))

pub ten_alone : {u : List ℕ} {n : ℕ} → Says u n → n ≡ 10 → length u < 2 → Expects u (expects 10 false false false)
ten_alone (Says.at_start i) e h = absurd (omega arith)
ten_alone (Says.number_wanted w) e h = absurd (omega arith)
ten_alone (Says.sign_alone k w) e h = w
ten_alone (Says.sign_then k w) e h = absurd (omega arith)
ten_alone (Says.dash_wanted s) e h = absurd (omega arith)
ten_alone (Says.stays k w) e h = absurd (never (lasts e k))

pub ten_on : {u : List ℕ} {n : ℕ} → Says u n → n ≡ 10 → 2 ≤ length u → Expects u (expects 0 false false false)
ten_on (Says.at_start i) e h = absurd (omega arith)
ten_on (Says.number_wanted w) e h = absurd (omega arith)
ten_on (Says.sign_alone k w) e h = absurd (omega arith)
ten_on (Says.sign_then k w) e h = still_expects w
ten_on (Says.dash_wanted s) e h = absurd (omega arith)
ten_on (Says.stays k w) e h = still_expects w

pub other_expects : {u : List ℕ} {n : ℕ} → Says u n → (n ≡ 8 → ⊥) → (n ≡ 10 → ⊥) → (n ≡ 13 → ⊥) → Expects u (expects 0 false false false)
other_expects (Says.at_start i) a b c = absurd (a refl)
other_expects (Says.number_wanted w) a b c = absurd (a refl)
other_expects (Says.sign_alone k w) a b c = absurd (b refl)
other_expects (Says.sign_then k w) a b c = absurd (b refl)
other_expects (Says.dash_wanted s) a b c = absurd (c refl)
other_expects (Says.stays k w) a b c = still_expects w

-- ---- 13: the front is a year

abbrev pub IsYear : List ℕ → Type 0
IsYear u = (y : ℤ) × Signed u y

pub thirteen_year : {u : List ℕ} {n : ℕ} → Says u n → n ≡ 13 → IsYear u
thirteen_year (Says.at_start i) e = absurd (omega arith)
thirteen_year (Says.number_wanted w) e = absurd (omega arith)
thirteen_year (Says.sign_alone k w) e = absurd (omega arith)
thirteen_year (Says.sign_then k w) e = absurd (omega arith)
thirteen_year (Says.dash_wanted {y} s) e = (y, s)
thirteen_year (Says.stays k w) e = absurd (never (lasts e k))

-- the magnitude that a year may reach
abbrev pub year_limit_value : ℤ → ℕ
year_limit_value y = cond (is_negative_value y) 2_147_483_648 2_147_483_647

pub year_written : {u : List ℕ} {y : ℤ} → Signed u y → Expects u (expects (digits_left_value (year_limit_value y) (nat_abs y)) true false false)
year_written (Signed.plain w h) = year_expects (YearSoFar.plain w h)
year_written (Signed.with_plus w h) = year_expects (YearSoFar.with_plus w h)
year_written (Signed.with_dash {n = zero} w h) = year_expects (YearSoFar.with_dash w h)
year_written (Signed.with_dash {n = suc k} w h) = year_expects (YearSoFar.with_dash w h)

-- as it is read
year_read : {u : List ℕ} {r : Result (ℤ × ℕ) Refusal} → IsYear u → SignedAt u 0 r → (y : ℤ) × Signed u y × (r ≡ Ok (y, 0 + length u))
year_read {u} (y, s) h =
    (y, s, signed_one h (At.within (omega arith) (subst (λ (x : List ℕ). SignedFrom 0 x (Ok (y, 0 + length u))) (append-nil u) (SignedFrom.number s Stops.ended))))

pub year_answer : {u : List ℕ} {r : Result (ℤ × ℕ) Refusal} {z : ℤ} {n : ℕ} → IsYear u → SignedAt u 0 r → r ≡ Ok (z, n) → Expects u (expects (digits_left_value (year_limit_value z) (nat_abs z)) true false false)
year_answer {u} {z = z} {n} w h e =
    let (y, s, i) = year_read w h in
    let p : ◌≡◌ {A = ℤ × ℕ} (y, 0 + length u) (z, n) = cc in
    let j : y ≡ z = ap (λ (x : ℤ × ℕ). x.0) p in
    subst (λ (x : ℤ). Expects u (expects (digits_left_value (year_limit_value x) (nat_abs x)) true false false)) j (year_written s)

pub year_refused : {u : List ℕ} {r : Result (ℤ × ℕ) Refusal} {f : Refusal} → IsYear u → SignedAt u 0 r → r ≡ Err f → ⊥
year_refused w h e = let (y, s, i) = year_read w h in let z : ◌≡◌ {A = ℕ} 0 1 = cc in omega arith

-- a year of 32 bits has a magnitude of at most 2 ^ 31
pub year_small : (y : ℤ) → SFits w32 y → nat_abs y < 4_294_967_296
year_small (pos n) h = omega (arith, h.sfits)
year_small (negsuc n) h = omega (arith, h.sfits)

pub limit_small : (t : Bool) → cond t 2_147_483_648 2_147_483_647 < 4_294_967_296
limit_small true = omega arith
limit_small false = omega arith

-- ---- by what was read

pub empty_expects : (u : List ℕ) → length u < 1 → Expects u (expects 10 true true false)
empty_expects [] h = start_expects
empty_expects (b ∷ u) h = absurd (omega arith)

pub ordinal_expects : {u : List ℕ} {y : ℤ} {n k : ℕ} → ReadDate u (Ok (Text.Ordinal y n k)) → (t : Bool) → Whether (Month n) t → Expects u (expects (digits_left_value 4_294_967_295 n) t false true)
ordinal_expects (ReadDate.ordinal_text (OrdinalText.ordinal s m)) t w = second_expects s m t w

pub ymd_expects : {u : List ℕ} {y : ℤ} {m d k : ℕ} → ReadDate u (Ok (Text.Ymd y m d k)) → Expects u (expects (digits_left_value 4_294_967_295 d) false false true)
ymd_expects (ReadDate.ymd_text (YmdText.ymd s m mo w)) = third_expects s m mo w

pub refused_says : {u : List ℕ} {f : Refusal} → ReadDate u (Err f) → Says u f.number
refused_says (ReadDate.faulty h) = says h
