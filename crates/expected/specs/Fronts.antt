-- Each front of a text: what could follow it.
-- Assumes nothing.
use Rattle.std.specs.Prelude.{ℕ, ◌+◌, ◌-◌, ◌*◌, ◌<◌, ◌≤◌, ◌^◌, ◌≡◌, Bool, true, false, cond, List, [], ◌∷◌, ◌++◌, length, ltb, ℤ}
use Rattle.std.proofs.Common.{sym, ◌∙◌, ap, subst, append_assoc, append-nil, ⊎_elim, arith, lt-ltb, le-ltb}
use Rattle.whole.specs.Tests.{lt_or_ge}
use Rattle.whole.specs.Whether.{Whether}
use Rattle.refusals.specs.declared.Refusal.{Refusal}
use Rattle.days.specs.DayByDay.{Month}
use Rattle.digits.specs.Numerals.{plus, dash, Digit, Numeral, Stops}
use Rattle.numbertext.specs.Numerals.{Unsigned, Signed, NoNumber, NoSigned, NoDash}
use Rattle.datetext.specs.Grammar.{OrdinalText, YmdText, Fault}
use Rattle.datetext.proofs.Theorems.{never_both}
use Rattle.datetext.specs.Grammar.{Belongs}
use Rattle.expected.specs.Expected.{CouldFollow}
use Rattle.expected.specs.Promise.{Expects}
use Rattle.expected.specs.Numbers.{longer, single, one, too_far, digits_left_value, left_few}
use Rattle.expected.specs.declared.Expected.{Expected}

abbrev pub expects : ℕ → Bool → Bool → Bool → Expected
expects k d p e = record { digits = k; dash = d; plus = p; ends = e }

-- ---- digits that could follow

module _ (u : List ℕ) where
  -- a byte cannot follow that is a fault, whatever comes after it
  faulty : (b : ℕ) → ((rest : List ℕ) → (f : Refusal) × Fault (u ++ (b ∷ rest)) f) → ¬ CouldFollow u b
  faulty b h (rest, g) = never_both g (h rest).1

  all_digits : ((b : ℕ) → Digit b → CouldFollow u b) → (b : ℕ) → Digit b → Whether (CouldFollow u b) (ltb (b - 48) 10)
  all_digits f b d = subst (Whether (CouldFollow u b)) (sym (lt-ltb (b - 48) 10 (omega (arith, d.low, d.high)))) (f b d)

  no_digits : ((b : ℕ) → Digit b → ¬ CouldFollow u b) → (b : ℕ) → Digit b → Whether (CouldFollow u b) (ltb (b - 48) 0)
  no_digits f b d = subst (Whether (CouldFollow u b)) (sym (le-ltb (b - 48) 0 (omega arith))) (f b d)

  -- those that keep a number n in its range
  some_digits : (limit n : ℕ) → ((b : ℕ) → Digit b → n * 10 + (b - 48) ≤ limit → CouldFollow u b) → ((b : ℕ) → Digit b → limit < n * 10 + (b - 48) → ¬ CouldFollow u b)
      → (b : ℕ) → Digit b → Whether (CouldFollow u b) (ltb (b - 48) (digits_left_value limit n))
  some_digits limit n fit unfit b d = ⊎_elim
      (λ h. subst (Whether (CouldFollow u b)) (sym (le-ltb (b - 48) (digits_left_value limit n) (out (n * 10) (b - 48) h))) (unfit b d h))
      (λ h. subst (Whether (CouldFollow u b)) (sym (lt-ltb (b - 48) (digits_left_value limit n) (inside (n * 10) (b - 48) (omega (arith, d.low, d.high)) h))) (fit b d h))
      (lt_or_ge limit (n * 10 + (b - 48)))
    where
      left : (P : ℕ → Type 0) (m : ℕ) → (limit < m → P 0) → (m ≤ limit → 10 < limit - m + 1 → P 10) → (m ≤ limit → limit - m + 1 ≤ 10 → P (limit - m + 1))
          → P (cond (ltb limit m) 0 (cond (ltb 10 (limit - m + 1)) 10 (limit - m + 1)))
      left P m none ten some = ⊎_elim
          (λ h. subst (λ (t : Bool). P (cond t 0 (cond (ltb 10 (limit - m + 1)) 10 (limit - m + 1)))) (sym (lt-ltb limit m h)) (none h))
          (λ h. subst (λ (t : Bool). P (cond t 0 (cond (ltb 10 (limit - m + 1)) 10 (limit - m + 1)))) (sym (le-ltb limit m h)) (⊎_elim
          (λ g. subst (λ (t : Bool). P (cond t 10 (limit - m + 1))) (sym (lt-ltb 10 (limit - m + 1) g)) (ten h g))
          (λ g. subst (λ (t : Bool). P (cond t 10 (limit - m + 1))) (sym (le-ltb 10 (limit - m + 1) g)) (some h g))
          (lt_or_ge 10 (limit - m + 1))))
          (lt_or_ge limit m)

      out : (m x : ℕ) → limit < m + x → cond (ltb limit m) 0 (cond (ltb 10 (limit - m + 1)) 10 (limit - m + 1)) ≤ x
      out m x h = left (λ (k : ℕ). k ≤ x) m (λ i. omega arith) (λ i j. omega arith) (λ i j. omega arith)

      inside : (m x : ℕ) → x < 10 → m + x ≤ limit → x < cond (ltb limit m) 0 (cond (ltb 10 (limit - m + 1)) 10 (limit - m + 1))
      inside m x g h = left (λ (k : ℕ). x < k) m (λ i. absurd (omega arith)) (λ i j. omega arith) (λ i j. omega arith)

-- ---- nothing could follow: the text is at fault already

pub nothing_expects : {u : List ℕ} → ((v : List ℕ) → ¬ Belongs (u ++ v)) → Expects u (expects 0 false false false)
nothing_expects {u} h = record {
  few = omega arith;
  digits = no_digits u (λ b d (rest, g). h (b ∷ rest) g);
  dashes = λ (rest, g). h (dash ∷ rest) g;
  pluses = λ (rest, g). h (plus ∷ rest) g;
  others = λ b i j k (rest, g). h (b ∷ rest) g;
  ends = λ g. h [] (subst Belongs (sym (append-nil u)) g);
}

-- ---- at the start, and after a sign

pub start_expects : Expects [] (expects 10 true true false)
start_expects = record {
  few = omega arith;
  digits = all_digits [] (λ b d. (dash ∷ (49 ∷ []), Belongs.by_ordinal (OrdinalText.ordinal (Signed.plain (single d) (omega (arith, d.high))) one)));
  dashes = (49 ∷ (dash ∷ (49 ∷ [])), Belongs.by_ordinal (OrdinalText.ordinal (Signed.with_dash one.numeral (omega arith)) one));
  pluses = (49 ∷ (dash ∷ (49 ∷ [])), Belongs.by_ordinal (OrdinalText.ordinal (Signed.with_plus one.numeral (omega arith)) one));
  others = λ b i j k. faulty [] b (λ rest. (_, Fault.at_year (NoSigned.other i k j)));
  ends = λ g. never_both g (Fault.at_year NoSigned.ended);
}

module _ (c : ℕ) (good : (p : List ℕ) (n : ℕ) → Numeral p n → n < 10 → (y : ℤ) × Signed (c ∷ p) y) (bare : (u : List ℕ) → Stops u → (f : Refusal) × Fault (c ∷ u) f) where
  sign_by : Expects (c ∷ []) (expects 10 false false false)
  sign_by = record {
    few = omega arith;
    digits = all_digits (c ∷ []) (λ b d. (dash ∷ (49 ∷ []), Belongs.by_ordinal (OrdinalText.ordinal (good (b ∷ []) (b - 48) (single d) (omega (arith, d.high))).1 one)));
    dashes = faulty (c ∷ []) dash (λ rest. bare (dash ∷ rest) (Stops.other (λ d. omega (arith, d.low))));
    pluses = faulty (c ∷ []) plus (λ rest. bare (plus ∷ rest) (Stops.other (λ d. omega (arith, d.low))));
    others = λ b i j k. faulty (c ∷ []) b (λ rest. bare (b ∷ rest) (Stops.other i));
    ends = λ g. never_both g (bare [] Stops.ended).1;
  }

pub plus_expects : Expects (plus ∷ []) (expects 10 false false false)
plus_expects = sign_by plus (λ p n w h. (_, Signed.with_plus w (omega arith))) (λ u st. (_, Fault.at_year (NoSigned.bare_plus st)))

pub dash_expects : Expects (dash ∷ []) (expects 10 false false false)
dash_expects = sign_by dash (λ p n w h. (_, Signed.with_dash w (omega arith))) (λ u st. (_, Fault.at_year (NoSigned.bare_dash st)))

-- ---- after the digits of a year, which write n so far

pub data YearSoFar : List ℕ → ℕ → ℕ → Type 0 where
  plain : {p : List ℕ} {n : ℕ} → Numeral p n → n < 2 ^ 31 → YearSoFar p n 2_147_483_647
  with_plus : {p : List ℕ} {n : ℕ} → Numeral p n → n < 2 ^ 31 → YearSoFar (plus ∷ p) n 2_147_483_647
  with_dash : {p : List ℕ} {n : ℕ} → Numeral p n → n ≤ 2 ^ 31 → YearSoFar (dash ∷ p) n 2_147_483_648

year_is : {u : List ℕ} {n limit : ℕ} → YearSoFar u n limit → (y : ℤ) × Signed u y
year_is (YearSoFar.plain w h) = (_, Signed.plain w h)
year_is (YearSoFar.with_plus w h) = (_, Signed.with_plus w h)
year_is (YearSoFar.with_dash w h) = (_, Signed.with_dash w h)

year_longer : {u : List ℕ} {n limit b : ℕ} → YearSoFar u n limit → Digit b → n * 10 + (b - 48) ≤ limit → (y : ℤ) × Signed (u ++ (b ∷ [])) y
year_longer (YearSoFar.plain w h) d k = (_, Signed.plain (longer w d) (omega arith))
year_longer (YearSoFar.with_plus w h) d k = (_, Signed.with_plus (longer w d) (omega arith))
year_longer (YearSoFar.with_dash w h) d k = (_, Signed.with_dash (longer w d) (omega arith))

year_over : {u : List ℕ} {n limit b : ℕ} → YearSoFar u n limit → Digit b → limit < n * 10 + (b - 48) → (rest : List ℕ) → (f : Refusal) × Fault (u ++ (b ∷ rest)) f
year_over (YearSoFar.plain w h) d k rest = let (f, t) = too_far 2147483647 11 0 w d k rest in (f, Fault.at_year (NoSigned.above t))
year_over (YearSoFar.with_plus w h) d k rest = let (f, t) = too_far 2147483647 11 1 w d k rest in (f, Fault.at_year (NoSigned.above_plus t))
year_over (YearSoFar.with_dash w h) d k rest = let (f, t) = too_far 2147483648 28 1 w d k rest in (f, Fault.at_year (NoSigned.below_dash t))

pub year_expects : {u : List ℕ} {n limit : ℕ} → YearSoFar u n limit → Expects u (expects (digits_left_value limit n) true false false)
year_expects {u} {n} {limit} w =
    let s = (year_is w).1 in
    record {
      few = left_few limit n;
      digits = some_digits u limit n
          (λ b d h. (dash ∷ (49 ∷ []), subst Belongs (append_assoc u (b ∷ []) (dash ∷ (49 ∷ []))) (Belongs.by_ordinal (OrdinalText.ordinal (year_longer w d h).1 one))))
          (λ b d h. faulty u b (year_over w d h));
      dashes = (49 ∷ [], Belongs.by_ordinal (OrdinalText.ordinal s one));
      pluses = faulty u plus (λ rest. (_, Fault.at_dash s (Stops.other (λ d. omega (arith, d.low))) (NoDash.other (λ e. omega arith))));
      others = λ b i j k. faulty u b (λ rest. (_, Fault.at_dash s (Stops.other i) (NoDash.other j)));
      ends = λ g. never_both (subst Belongs (sym (append-nil u)) g) (Fault.at_dash s Stops.ended NoDash.ended);
    }

-- ---- after the `-` of a year, and after the digits of the second number

module _ {p : List ℕ} {y : ℤ} (s : Signed p y) where
  on : (w v : List ℕ) → p ++ (w ++ v) ≡ (p ++ w) ++ v
  on w v = sym (append_assoc p w v)

  second_fault : (w v : List ℕ) → (f : Refusal) × Fault (p ++ (w ++ v)) f → (f : Refusal) × Fault ((p ++ w) ++ v) f
  second_fault w v (f, g) = (f, subst (λ (x : List ℕ). Fault x f) (on w v) g)

  pub second_start_expects : Expects (p ++ (dash ∷ [])) (expects 10 false false false)
  second_start_expects = record {
    few = omega arith;
    digits = all_digits (p ++ (dash ∷ [])) (λ b d. ([], subst Belongs (on (dash ∷ []) (b ∷ [])) (Belongs.by_ordinal (OrdinalText.ordinal s (record { numeral = single d; fits = omega (arith, d.high) })))));
    dashes = faulty (p ++ (dash ∷ [])) dash (λ rest. second_fault (dash ∷ []) (dash ∷ rest) (_, Fault.at_second s (NoNumber.other (λ d. omega (arith, d.low)))));
    pluses = faulty (p ++ (dash ∷ [])) plus (λ rest. second_fault (dash ∷ []) (plus ∷ rest) (_, Fault.at_second s (NoNumber.other (λ d. omega (arith, d.low)))));
    others = λ b i j k. faulty (p ++ (dash ∷ [])) b (λ rest. second_fault (dash ∷ []) (b ∷ rest) (_, Fault.at_second s (NoNumber.other i)));
    ends = λ g. never_both g (Fault.at_second s NoNumber.ended);
  }

  module _ {q : List ℕ} {n : ℕ} (m : Unsigned q n) where
    -- whatever follows but a digit is judged with the month
    after_month : (b : ℕ) → (Digit b → ⊥) → (b ≡ dash → ⊥) → (rest : List ℕ) → (t : Bool) → Whether (Month n) t → (f : Refusal) × Fault ((p ++ (dash ∷ q)) ++ (b ∷ rest)) f
    after_month b i j rest true mo = second_fault (dash ∷ q) (b ∷ rest) (_, Fault.at_second_dash s m mo (Stops.other i) (NoDash.other j))
    after_month b i j rest false bad = second_fault (dash ∷ q) (b ∷ rest) (_, Fault.at_month s m (Stops.other i) bad)

    month_dash : (t : Bool) → Whether (Month n) t → Whether (CouldFollow (p ++ (dash ∷ q)) dash) t
    month_dash true mo = (49 ∷ [], subst Belongs (on (dash ∷ q) (dash ∷ (49 ∷ []))) (Belongs.by_day (YmdText.ymd s m mo one)))
    month_dash false bad = faulty (p ++ (dash ∷ q)) dash (λ rest. second_fault (dash ∷ q) (dash ∷ rest) (_, Fault.at_month s m (Stops.other (λ d. omega (arith, d.low))) bad))

    pub second_expects : (t : Bool) → Whether (Month n) t → Expects (p ++ (dash ∷ q)) (expects (digits_left_value 4_294_967_295 n) t false true)
    second_expects t w = record {
      few = left_few 4294967295 n;
      digits = some_digits (p ++ (dash ∷ q)) 4294967295 n
          (λ b d h. ([], subst Belongs (on (dash ∷ q) (b ∷ [])) (Belongs.by_ordinal (OrdinalText.ordinal s (record { numeral = longer m.numeral d; fits = omega arith })))))
          (λ b d h. faulty (p ++ (dash ∷ q)) b (λ rest. let (f, g) = too_far 4294967295 11 (length p + 1) m.numeral d h rest in second_fault (dash ∷ q) (b ∷ rest) (f, Fault.at_second s (NoNumber.above g))));
      dashes = month_dash t w;
      pluses = faulty (p ++ (dash ∷ q)) plus (λ rest. after_month plus (λ d. omega (arith, d.low)) (λ e. omega arith) rest t w);
      others = λ b i j k. faulty (p ++ (dash ∷ q)) b (λ rest. after_month b i j rest t w);
      ends = Belongs.by_ordinal (OrdinalText.ordinal s m);
    }

    -- ---- after the `-` of a month, and after the digits of a day
    module _ (mo : Month n) where
      third_on : (w v : List ℕ) → p ++ (dash ∷ (q ++ (dash ∷ (w ++ v)))) ≡ (p ++ (dash ∷ (q ++ (dash ∷ w)))) ++ v
      third_on w v = ap (λ (x : List ℕ). p ++ (dash ∷ x)) (sym (append_assoc q (dash ∷ w) v)) ∙ on (dash ∷ (q ++ (dash ∷ w))) v

      third_fault : (w v : List ℕ) → (f : Refusal) × Fault (p ++ (dash ∷ (q ++ (dash ∷ (w ++ v))))) f → (f : Refusal) × Fault ((p ++ (dash ∷ (q ++ (dash ∷ w)))) ++ v) f
      third_fault w v (f, g) = (f, subst (λ (x : List ℕ). Fault x f) (third_on w v) g)

      pub third_start_expects : Expects (p ++ (dash ∷ (q ++ (dash ∷ [])))) (expects 10 false false false)
      third_start_expects = record {
        few = omega arith;
        digits = all_digits (p ++ (dash ∷ (q ++ (dash ∷ [])))) (λ b d. ([], subst Belongs (third_on [] (b ∷ [])) (Belongs.by_day (YmdText.ymd s m mo (record { numeral = single d; fits = omega (arith, d.high) })))));
        dashes = faulty (p ++ (dash ∷ (q ++ (dash ∷ [])))) dash (λ rest. third_fault ([]) (dash ∷ rest) (_, Fault.at_third s m mo (NoNumber.other (λ d. omega (arith, d.low)))));
        pluses = faulty (p ++ (dash ∷ (q ++ (dash ∷ [])))) plus (λ rest. third_fault ([]) (plus ∷ rest) (_, Fault.at_third s m mo (NoNumber.other (λ d. omega (arith, d.low)))));
        others = λ b i j k. faulty (p ++ (dash ∷ (q ++ (dash ∷ [])))) b (λ rest. third_fault ([]) (b ∷ rest) (_, Fault.at_third s m mo (NoNumber.other i)));
        ends = λ g. never_both g (Fault.at_third s m mo NoNumber.ended);
      }

      pub third_expects : {t : List ℕ} {d : ℕ} → Unsigned t d → Expects (p ++ (dash ∷ (q ++ (dash ∷ t)))) (expects (digits_left_value 4_294_967_295 d) false false true)
      third_expects {t} {d} w = record {
        few = left_few 4294967295 d;
        digits = some_digits (p ++ (dash ∷ (q ++ (dash ∷ t)))) 4294967295 d
            (λ b i h. ([], subst Belongs (third_on t (b ∷ [])) (Belongs.by_day (YmdText.ymd s m mo (record { numeral = longer w.numeral i; fits = omega arith })))))
            (λ b i h. faulty (p ++ (dash ∷ (q ++ (dash ∷ t)))) b (λ rest. let (f, g) = too_far 4294967295 11 (length p + 1 + length q + 1) w.numeral i h rest in third_fault (t) (b ∷ rest) (f, Fault.at_third s m mo (NoNumber.above g))));
        dashes = faulty (p ++ (dash ∷ (q ++ (dash ∷ t)))) dash (λ rest. third_fault (t) (dash ∷ rest) (_, Fault.left_over s m mo w (Stops.other (λ d. omega (arith, d.low)))));
        pluses = faulty (p ++ (dash ∷ (q ++ (dash ∷ t)))) plus (λ rest. third_fault (t) (plus ∷ rest) (_, Fault.left_over s m mo w (Stops.other (λ d. omega (arith, d.low)))));
        others = λ b i j k. faulty (p ++ (dash ∷ (q ++ (dash ∷ t)))) b (λ rest. third_fault (t) (b ∷ rest) (_, Fault.left_over s m mo w (Stops.other i)));
        ends = Belongs.by_day (YmdText.ymd s m mo w);
      }
