-- What the proofs need: of a buffer, of the digits of a number, and from both to the promises.
use Rattle.std.specs.Prelude.{ℕ, suc, ◌+◌, ◌-◌, ◌≤◌, ◌<◌, zero, ◌*◌, ◌/◌, ◌%◌, ◌^◌, ◌≡◌, refl, false, Bool, true, List, [], ◌∷◌, ◌++◌, length, get_or, leb, ℤ, pos, negsuc, nat_abs, Result, Ok, Err, Some}
use Rattle.std.proofs.Common.{sym, ◌∙◌, ap, subst, ⊎_elim, pow-suc, mod-lt, div-add-mod', div-lt_iff_lt-mul, le-div_iff_mul-le, mul-le-mul_right, mul_assoc, mul_comm, one-mul, arith, length-append, le-leb, leb-true, leb-false}
use Rattle.std.proofs.Math.Nat.{pow-zero, pow-le-pow_right}
use Rattle.std.proofs.lemmas.Bool.{lt-leb}
use Rattle.whole.specs.Tests.{lt_or_ge}
use Rattle.writer.specs.Promise.{put, Copies, copied, Decimal, digits_of, Width, WholeDecimal, YmdDecimal, Puts, Writes, PutNumber, PutWhole, WriteYmd, whole_text, Signs}
use Rattle.digits.specs.Numerals.{value_from, value_of, Digit, Digits, dash}
use Rattle.refusals.specs.declared.Refusal.{Refusal}
use Rattle.refusals.specs.Promise.{refusal}
use Rattle.whole.specs.Promise.{is_negative_value}

-- ---- the text t was put into b from `at` on: b' is the buffer then, and i the offset after the text

pub record PutText (b : List ℕ) (at : ℕ) (t b' : List ℕ) (i : ℕ) : Type 0 where
  pub is : b' ≡ put b at t
  pub offset : i ≡ at + length t

-- ---- what a copier promises

pub copied_to : {t b : List ℕ} {at : ℕ} {b' : List ℕ} {i : ℕ} → at + length t ≤ length b → PutText b at t b' i → Copies t b at b' (Some i)
copied_to {t} {b} {at} {b'} {i} h s = subst (λ (x : List ℕ). Copies t b at x (Some i)) (sym s.is) (subst (λ (k : ℕ). Copies t b at (put b at t) (Some k)) (sym s.offset) (copied h))

-- ---- the digits of a number

pub length_digits : (k n : ℕ) → length (digits_of k n) ≡ k
length_digits zero n = refl
length_digits (suc k) n = length-append (digits_of k (n / 10)) ((48 + n % 10) ∷ []) ∙ omega (arith, length_digits k (n / 10))

-- ---- what digits write

value_snoc : (v : ℕ) (p : List ℕ) (b : ℕ) → value_from v (p ++ (b ∷ [])) ≡ value_from v p * 10 + (b - 48)
value_snoc v [] b = refl
value_snoc v (x ∷ p) b = value_snoc (v * 10 + (x - 48)) p b

digits_snoc : {p : List ℕ} {b : ℕ} → Digits p → Digit b → Digits (p ++ (b ∷ []))
digits_snoc Digits.none d = Digits.more d Digits.none
digits_snoc (Digits.more e ds) d = Digits.more e (digits_snoc ds d)

tenth : (k n : ℕ) → n < 10 ^ suc k → n / 10 < 10 ^ k
tenth k n h = (div-lt_iff_lt-mul {k = 10} {x = n} {y = 10 ^ k} (omega arith)).1 (omega (arith, pow-suc 10 k))

digits_value : (k n : ℕ) → n < 10 ^ k → value_of (digits_of k n) ≡ n
digits_value zero n h = omega (arith, pow-zero 10)
digits_value (suc k) n h =
    value_snoc 0 (digits_of k (n / 10)) (48 + n % 10) ∙ omega (arith, digits_value k (n / 10) (tenth k n h), div-add-mod' n 10)

all_digits : (k n : ℕ) → Digits (digits_of k n)
all_digits zero n = Digits.none
all_digits (suc k) n = digits_snoc (all_digits k (n / 10)) (record { low = omega arith; high = omega (arith, mod-lt n {m = 10} (omega arith)) })

-- ---- between which powers of ten

low : (w : ℕ) (t : List ℕ) → w * 10 ^ length t ≤ value_from w t
low w [] = omega (arith, pow-zero 10, mul_one_le w)
  where
    mul_one_le : (w : ℕ) → w * 1 ≤ w
    mul_one_le w = omega arith
low w (b ∷ t) = omega (arith, low (w * 10 + (b - 48)) t, mul-le-mul_right (10 ^ length t) (more w b), carried w (length t))
  where
    more : (w b : ℕ) → w * 10 ≤ w * 10 + (b - 48)
    more w b = omega arith

    carried : (w k : ℕ) → w * 10 ^ suc k ≡ w * 10 * 10 ^ k
    carried w k = ap (λ (x : ℕ). w * x) (pow-suc 10 k ∙ mul_comm (10 ^ k) 10) ∙ sym (mul_assoc w 10 (10 ^ k))

high : (v : ℕ) {t : List ℕ} → Digits t → value_from v t < (v + 1) * 10 ^ length t
high v Digits.none = omega (arith, pow-zero 10, plain v)
  where
    plain : (v : ℕ) → (v + 1) * 1 ≡ v + 1
    plain v = omega arith
high v (Digits.more {b} {s} d ds) = omega (arith, high (v * 10 + (b - 48)) ds, mul-le-mul_right (10 ^ length s) (more v b d), carried v (length s))
  where
    more : (v b : ℕ) → Digit b → v * 10 + (b - 48) + 1 ≤ (v + 1) * 10
    more v b d = omega (arith, d.low, d.high)

    carried : (v k : ℕ) → (v + 1) * 10 ^ suc k ≡ (v + 1) * 10 * 10 ^ k
    carried v k = ap (λ (x : ℕ). (v + 1) * x) (pow-suc 10 k ∙ mul_comm (10 ^ k) 10) ∙ sym (mul_assoc (v + 1) 10 (10 ^ k))

-- digits that begin with a '0' write less than the power of the others
zero_first : (p : List ℕ) → Digits p → get_or p 0 0 ≡ 48 → (k : ℕ) → length p ≡ suc k → value_of p < 10 ^ k
zero_first p Digits.none e k h = absurd (omega arith)
zero_first p (Digits.more {b} {s} d ds) e k h =
    let l : length s ≡ k = omega arith in
    let z : 0 * 10 + (b - 48) ≡ 0 = omega arith in
    subst (λ (i : ℕ). value_of (b ∷ s) < 10 ^ i) l (subst (λ (v : ℕ). value_from v s < 10 ^ length s) (sym z) (omega (arith, high 0 ds, one-mul (10 ^ length s))))

pub decimal_of : {n k : ℕ} → Width n k → Decimal (digits_of k n) n
decimal_of {n} {k} w =
    record {
      numeral =
          record {
            some = omega (arith, length_digits k n, w.is);
            digits = all_digits k n;
            writes = digits_value k n (subst (λ (i : ℕ). n < 10 ^ i) (sym w.is) w.below);
          };
      unpadded = λ e. length_digits k n ∙ ⊎_elim (λ h. absurd (never e h)) (λ h. omega (arith, w.is)) (lt_or_ge 0 w.less);
    }
  where
    never : get_or (digits_of k n) 0 0 ≡ 48 → 0 < w.less → ⊥
    never e h =
        let small : value_of (digits_of k n) < 10 ^ w.less = zero_first (digits_of k n) (all_digits k n) e w.less (length_digits k n ∙ w.is) in
        omega (arith, small, digits_value k n (subst (λ (i : ℕ). n < 10 ^ i) (sym w.is) w.below), w.least (omega arith))

-- ---- how long it is

pub decimal_short : {p : List ℕ} {n : ℕ} → Decimal p n → (k : ℕ) → 1 ≤ k → n < 10 ^ k → length p ≤ k
decimal_short {p} {n} d k h l = by d.numeral.digits d.unpadded d.numeral.writes
  where
    by : {r : List ℕ} → Digits r → (get_or r 0 0 ≡ 48 → length r ≡ 1) → value_of r ≡ n → length r ≤ k
    by Digits.none u e = omega arith
    by (Digits.more {b} {s} x xs) u e = ⊎_elim
        (λ g. ⊎_elim (λ f. omega arith) (λ f. absurd (never f g)) (lt_or_ge (length s) k))
        (λ g. omega (arith, u (omega (arith, x.low))))
        (lt_or_ge 48 b)
      where
        never : k ≤ length s → 48 < b → ⊥
        never f g =
            omega (arith, pow-le-pow_right {n = 10} (omega arith) f, low (0 * 10 + (b - 48)) s, e, mul-le-mul_right (10 ^ length s) (some g), one-mul (10 ^ length s))
          where
            some : 48 < b → 1 ≤ 0 * 10 + (b - 48)
            some g = omega arith

pub width_few : {n k : ℕ} → Width n k → n < 2 ^ 64 → k ≤ 20
width_few {n} {k} w h = subst (λ (i : ℕ). i ≤ 20) (length_digits k n) (decimal_short (decimal_of w) 20 (omega arith) (omega arith))

-- ---- counting the digits of n, four at a time: what is still to be counted of `rest` comes to the whole with the k that were

pub record Counting (n rest k : ℕ) : Type 0 where
  pub bound : 2000 * k + rest ≤ n
  pub more : (j : ℕ) → Width rest j → Width n (j + k)

pub counting_start : (n : ℕ) → Counting n n 0
counting_start n = record { bound = omega arith; more = λ j w. subst (Width n) (omega arith) w }

four : (k : ℕ) → 10 ^ (k + 4) ≡ 10 ^ k * 10000
four k = ap (λ (i : ℕ). 10 ^ i) (sucs k) ∙ pow-suc 10 (suc (suc (suc k))) ∙ omega (arith, pow-suc 10 (suc (suc k)), pow-suc 10 (suc k), pow-suc 10 k)
  where
    sucs : (k : ℕ) → k + 4 ≡ suc (suc (suc (suc k)))
    sucs k = omega arith

width_four : (rest j : ℕ) → 10000 ≤ rest → Width (rest / 10000) j → Width rest (j + 4)
width_four rest j h w =
    record {
      less = w.less + 4;
      is = omega (arith, w.is);
      below = subst (λ (i : ℕ). rest < 10 ^ i) (sucs w.less) (subst (λ (i : ℕ). rest < i) (sym (four (suc w.less))) ((div-lt_iff_lt-mul {k = 10000} {x = rest} {y = 10 ^ suc w.less} (omega arith)).0 w.below));
      least = λ _. subst (λ (i : ℕ). i ≤ rest) (sym (four w.less)) ((le-div_iff_mul-le {k = 10000} {x = 10 ^ w.less} {y = rest} (omega arith)).0 (at_least w.less w.least));
    }
  where
    sucs : (k : ℕ) → suc k + 4 ≡ suc (k + 4)
    sucs k = omega arith

    one_at_least : 1 ≤ rest / 10000
    one_at_least = (le-div_iff_mul-le {k = 10000} {x = 1} {y = rest} (omega arith)).1 (omega arith)

    at_least : (l : ℕ) → (1 ≤ l → 10 ^ l ≤ rest / 10000) → 10 ^ l ≤ rest / 10000
    at_least zero f = one_at_least
    at_least (suc l) f = f (omega arith)

pub counting_step : {n rest k : ℕ} → Counting n rest k → 10000 ≤ rest → Counting n (rest / 10000) (k + 4)
counting_step {n} {rest} {k} c h =
    record {
      bound = omega (arith, c.bound, div-add-mod' rest 10000);
      more = λ j w. subst (Width n) (omega arith) (c.more (j + 4) (width_four rest j h w));
    }

-- the digits that are left are one to four
width_small : (n k : ℕ) → n < 10 ^ suc k → (1 ≤ k → 10 ^ k ≤ n) → Width n (suc k)
width_small n k h l = record { less = k; is = refl; below = h; least = l }

pub counted : {n rest k : ℕ} → Counting n rest k → n < 2 ^ 64 → (j : ℕ) → rest < 10 ^ suc j → (1 ≤ j → 10 ^ j ≤ rest) → (i : ℕ) → k + suc j ≡ i → (Width n i) × (i ≤ 20)
counted {n} {rest} {k} c h j b l i e =
    let w : Width n i = subst (Width n) (swap k j ∙ e) (c.more (suc j) (width_small rest j b l)) in
    (w, width_few w h)
  where
    swap : (k j : ℕ) → suc j + k ≡ k + suc j
    swap k j = omega arith

-- ---- every number has a width

width_below : (n k : ℕ) → n < 10 ^ suc k → (j : ℕ) × Width n j
width_below n zero h = (1, width_small n 0 h (λ g. omega arith))
width_below n (suc k) h = ⊎_elim (λ g. width_below n k g) (λ g. (suc (suc k), width_small n (suc k) h (λ _. g))) (lt_or_ge n (10 ^ suc k))

pub has_width : (n : ℕ) → (j : ℕ) × Width n j
has_width n = width_below n n (less n)
  where
    less : (n : ℕ) → n < 10 ^ suc n
    less zero = omega arith
    less (suc n) = omega (arith, less n, pow-suc 10 (suc n))

-- ---- a number with its sign, which has k digits

abbrev pub whole_width : Bool → ℕ → ℕ
whole_width true k = k + 1
whole_width false k = k

pub length_whole : (neg : Bool) (k n : ℕ) → length (whole_text neg k n) ≡ whole_width neg k
length_whole true k n = omega (arith, length_digits k n)
length_whole false k n = length_digits k n

-- what it is the text of
pub whole_text_lem : (x : ℤ) (k : ℕ) → Width (nat_abs x) k → WholeDecimal (whole_text (is_negative_value x) k (nat_abs x)) x
whole_text_lem (pos n) k w = WholeDecimal.not_negative (decimal_of w)
whole_text_lem (negsuc n) k w = WholeDecimal.negative (decimal_of w)

-- ---- a date, with the widths of its numbers

abbrev pub ymd_text_value : Bool → ℕ → ℕ → ℕ → ℕ → ℕ → ℕ → List ℕ
ymd_text_value neg ky n km m kd d = whole_text neg ky n ++ (dash ∷ (digits_of km m ++ (dash ∷ digits_of kd d)))

pub length_ymd : (neg : Bool) (ky n km m kd d : ℕ) → length (ymd_text_value neg ky n km m kd d) ≡ whole_width neg ky + km + kd + 2
length_ymd neg ky n km m kd d =
    length-append (whole_text neg ky n) (dash ∷ (digits_of km m ++ (dash ∷ digits_of kd d)))
    ∙ omega (arith, length_whole neg ky n, length-append (digits_of km m) (dash ∷ digits_of kd d), length_digits km m, length_digits kd d)

pub ymd_text : (y : ℤ) (m d ky km kd : ℕ) → Width (nat_abs y) ky → Width m km → Width d kd → YmdDecimal (ymd_text_value (is_negative_value y) ky (nat_abs y) km m kd d) y m d
ymd_text y m d ky km kd wy wm wd = YmdDecimal.ymd_decimal (whole_text_lem y ky wy) (decimal_of wm) (decimal_of wd)

-- ---- what a writer promises

pub wrote : {IsText : List ℕ → Type 0} {b b' t : List ℕ} {at i : ℕ} → IsText t → at + length t ≤ length b → PutText b at t b' i → Writes IsText b at b' (Ok i)
wrote {IsText} {b} {b'} {t} {at} {i} x h s =
    Writes.writes x (subst (λ (l : List ℕ). Puts t b at l (Ok i)) (sym s.is) (subst (λ (k : ℕ). Puts t b at (put b at t) (Ok k)) (sym s.offset) (Puts.done h)))

pub left_alone : {IsText : List ℕ → Type 0} {b : List ℕ} {at k : ℕ} {f : Refusal} (t : List ℕ) → IsText t → k ≡ length t → length b < at + length t → f ≡ refusal 18 0 (pos k)
    → Writes IsText b at b (Err f)
left_alone {b = b} {at = at} t x e h g =
    Writes.writes x (subst (λ (f : Refusal). Puts t b at b (Err f)) (sym (g ∙ ap (λ (k : ℕ). refusal 18 0 (pos k)) e)) (Puts.short h))

-- ---- the text of a sign and a magnitude, whatever its width

writes_as : {P Q : List ℕ → Type 0} {b b' : List ℕ} {at : ℕ} {r : Result ℕ Refusal} → ((t : List ℕ) → P t → Q t) → Writes P b at b' r → Writes Q b at b' r
writes_as f (Writes.writes {t} x h) = Writes.writes (f t x) h

pub as_number : {n : ℕ} {b b' : List ℕ} {at : ℕ} {r : Result ℕ Refusal} → Writes (Signs false n) b at b' r → PutNumber n b at b' r
as_number {n} = writes_as by
  where
    by : (t : List ℕ) → Signs false n t → Decimal t n
    by t (Signs.signs w) = decimal_of w

pub as_whole : {x : ℤ} {neg : Bool} {n : ℕ} {b b' : List ℕ} {at : ℕ} {r : Result ℕ Refusal} → neg ≡ is_negative_value x → n ≡ nat_abs x → Writes (Signs neg n) b at b' r → PutWhole x b at b' r
as_whole {x} {neg} {n} e h = writes_as (λ t s. by t (subst (λ (i : ℕ). Signs (is_negative_value x) i t) h (subst (λ (u : Bool). Signs u n t) e s)))
  where
    by : (t : List ℕ) → Signs (is_negative_value x) (nat_abs x) t → WholeDecimal t x
    by t (Signs.signs {k} w) = whole_text_lem x k w

-- ---- the tests of the code

-- a number that has room, or not, where `room` is the test
module _ (neg : Bool) (n k size at : ℕ) (b : List ℕ) {room : Bool} (w : Width n k) (s : size ≡ whole_width neg k) (test : room ≡ leb (at + size) (length b)) where
  pub room_for : room ≡ true → at + whole_width neg k ≤ length b
  room_for e = subst (λ (i : ℕ). at + i ≤ length b) s (leb-true (at + size) (length b) (sym test ∙ e))

  pub signed_wrote : room ≡ true → {b' : List ℕ} {i : ℕ} → PutText b at (whole_text neg k n) b' i → Writes (Signs neg n) b at b' (Ok i)
  signed_wrote e r = wrote (Signs.signs w) (subst (λ (j : ℕ). at + j ≤ length b) (sym (length_whole neg k n)) (room_for e)) r

  pub signed_left : room ≡ false → {f : Refusal} → f ≡ refusal 18 0 (pos size) → Writes (Signs neg n) b at b (Err f)
  signed_left e g =
      let t : size ≡ length (whole_text neg k n) = s ∙ sym (length_whole neg k n) in
      left_alone (whole_text neg k n) (Signs.signs w) t (subst (λ (j : ℕ). length b < at + j) t (leb-false (at + size) (length b) (sym test ∙ e))) g

-- a date, whose year has the sign neg and the magnitude n
module _ (y : ℤ) (m d : ℕ) {neg : Bool} {n ky km kd w : ℕ} (e : neg ≡ is_negative_value y) (a : n ≡ nat_abs y) (wy : Width n ky) (wm : Width m km) (wd : Width d kd)
    (s : w ≡ whole_width neg ky) (b : List ℕ) where
  pub text_is : YmdDecimal (ymd_text_value neg ky n km m kd d) y m d
  text_is =
      subst (λ (t : Bool). YmdDecimal (ymd_text_value t ky n km m kd d) y m d) (sym e)
      (subst (λ (i : ℕ). YmdDecimal (ymd_text_value (is_negative_value y) ky i km m kd d) y m d) (sym a)
      (ymd_text y m d ky km kd (subst (λ (i : ℕ). Width i ky) a wy) wm wd))

  pub size_is : w + km + kd + 2 ≡ length (ymd_text_value neg ky n km m kd d)
  size_is = ap (λ (i : ℕ). i + km + kd + 2) s ∙ sym (length_ymd neg ky n km m kd d)

  pub ymd_left : length b < w + km + kd + 2 → {f : Refusal} → f ≡ refusal 18 0 (pos (w + km + kd + 2)) → WriteYmd y m d b b (Err f)
  ymd_left h g = left_alone (ymd_text_value neg ky n km m kd d) text_is size_is (omega (arith, size_is)) g
