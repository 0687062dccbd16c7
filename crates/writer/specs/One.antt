-- Two results that a promise allows are one: a theorem for each promise.
use Rattle.std.specs.Prelude.{ℕ, suc, ◌+◌, ◌-◌, ◌*◌, ◌≤◌, ◌<◌, ◌≡◌, refl, List, ◌∷◌, ◌++◌, length, get_or, false, Bool, true, ℤ, Result, Option}
use Rattle.std.proofs.Common.{sym, ◌∙◌, ap, ap₂, subst, ⊎_elim, arith}
use Rattle.whole.specs.Tests.{lt_or_ge}
use Rattle.digits.specs.Numerals.{value_from, value_of, Digits, Numeral, dash}
use Rattle.writer.specs.Promise.{Decimal, Width, Copies, copied, no_room, WholeDecimal, YmdDecimal, Puts, Writes, PutNumber, PutWhole, WriteYmd, whole_text, Signs}
use Rattle.writer.specs.Laws.{decimal_of, length_digits}
use Rattle.refusals.specs.declared.Refusal.{Refusal}

-- ---- a number has one decimal

-- digits of one length that write the same after v and after w are the same
same_digits : {p q : List ℕ} → Digits p → Digits q → length p ≡ length q → (v w : ℕ) → value_from v p ≡ value_from w q → (v ≡ w) × (p ≡ q)
same_digits Digits.none Digits.none l v w e = (e, refl)
same_digits Digits.none (Digits.more d ds) l v w e = absurd (omega arith)
same_digits (Digits.more d ds) Digits.none l v w e = absurd (omega arith)
same_digits (Digits.more {b} {s} d ds) (Digits.more {b = c} {s = t} d' ds') l v w e =
    let h = same_digits ds ds' (omega arith) (v * 10 + (b - 48)) (w * 10 + (c - 48)) e in
    (omega (arith, h.0, d.low, d.high, d'.low, d'.high), ap₂ (λ (x : ℕ) (y : List ℕ). x ∷ y) (omega (arith, h.0, d.low, d.high, d'.low, d'.high)) h.1)

-- fewer digits, or as many after a smaller number, write less
less_digits : {p q : List ℕ} → Digits p → Digits q → length p ≡ length q → (v w : ℕ) → v < w → value_from v p < value_from w q
less_digits Digits.none Digits.none l v w h = h
less_digits Digits.none (Digits.more d ds) l v w h = absurd (omega arith)
less_digits (Digits.more d ds) Digits.none l v w h = absurd (omega arith)
less_digits (Digits.more {b} {s} d ds) (Digits.more {b = c} {s = t} d' ds') l v w h =
    less_digits ds ds' (omega arith) (v * 10 + (b - 48)) (w * 10 + (c - 48)) (omega (arith, d.low, d.high))

fewer_digits : {p q : List ℕ} → Digits p → Digits q → length p ≤ length q → (w : ℕ) → 0 < w → value_of p < value_from w q
fewer_digits {p} ds Digits.none l w h = less_digits ds Digits.none (omega arith) 0 w h
fewer_digits {p} ds (Digits.more {b = c} {s = t} d ds') l w h = ⊎_elim
    (λ k. fewer_digits ds ds' (omega arith) (w * 10 + (c - 48)) (omega arith))
    (λ k. less_digits ds (Digits.more {b = c} {s = t} d ds') (omega arith) 0 w h)
    (lt_or_ge (length p) (suc (length t)))

-- an unpadded numeral is no shorter than any other of the same number
no_longer : {p q : List ℕ} {n : ℕ} → Numeral p n → Decimal q n → length p < length q → ⊥
no_longer {p} {q} {n} w d l = by d.numeral.digits d.unpadded l d.numeral.writes
  where
    by : {r : List ℕ} → Digits r → (get_or r 0 0 ≡ 48 → length r ≡ 1) → length p < length r → value_of r ≡ n → ⊥
    by Digits.none u l e = omega arith
    by (Digits.more {b} {s} x xs) u l e = ⊎_elim
        (λ k. omega (arith, fewer_digits w.digits xs (omega arith) (0 * 10 + (b - 48)) (omega arith), w.writes))
        (λ k. omega (arith, u (omega (arith, x.low)), w.some))
        (lt_or_ge 48 b)

pub decimal_one : {p q : List ℕ} {n : ℕ} → Decimal p n → Decimal q n → p ≡ q
decimal_one {p} {q} {n} d e = ⊎_elim
    (λ h. absurd (no_longer d.numeral e h))
    (λ h. ⊎_elim (λ k. absurd (no_longer e.numeral d k)) (λ k. (same_digits d.numeral.digits e.numeral.digits (omega arith) 0 0 (d.numeral.writes ∙ sym e.numeral.writes)).1) (lt_or_ge (length q) (length p)))
    (lt_or_ge (length p) (length q))

-- ---- bytes copied, and how many digits a number has

pub copy_text_one : {t b b₁ b₂ : List ℕ} {at : ℕ} {r₁ r₂ : Option ℕ} → Copies t b at b₁ r₁ → Copies t b at b₂ r₂ → (b₁ ≡ b₂) × (r₁ ≡ r₂)
copy_text_one (copied h) (copied k) = (refl, refl)
copy_text_one (copied h) (no_room k) = absurd (omega arith)
copy_text_one (no_room h) (copied k) = absurd (omega arith)
copy_text_one (no_room h) (no_room k) = (refl, refl)

pub width_one : {n k j : ℕ} → Width n k → Width n j → k ≡ j
width_one {n} {k} {j} v w = sym (length_digits k n) ∙ ap length (decimal_one (decimal_of v) (decimal_of w)) ∙ length_digits j n

-- ---- a number and a date have one text

pub whole_one : {p q : List ℕ} {y : ℤ} → WholeDecimal p y → WholeDecimal q y → p ≡ q
whole_one (WholeDecimal.not_negative d) (WholeDecimal.not_negative e) = decimal_one d e
whole_one (WholeDecimal.negative d) (WholeDecimal.negative e) = ap (λ (x : List ℕ). dash ∷ x) (decimal_one d e)

pub ymd_one : {p q : List ℕ} {y : ℤ} {m d : ℕ} → YmdDecimal p y m d → YmdDecimal q y m d → p ≡ q
ymd_one (YmdDecimal.ymd_decimal a b c) (YmdDecimal.ymd_decimal a' b' c') =
    ap₂ (λ (x y : List ℕ). x ++ (dash ∷ y)) (whole_one a a') (ap₂ (λ (x y : List ℕ). x ++ (dash ∷ y)) (decimal_one b b') (decimal_one c c'))

-- ---- each promise allows one result

puts_one : {t b b₁ b₂ : List ℕ} {at : ℕ} {r₁ r₂ : Result ℕ Refusal} → Puts t b at b₁ r₁ → Puts t b at b₂ r₂ → (b₁ ≡ b₂) × (r₁ ≡ r₂)
puts_one (Puts.done h) (Puts.done k) = (refl, refl)
puts_one (Puts.done h) (Puts.short k) = absurd (omega arith)
puts_one (Puts.short h) (Puts.done k) = absurd (omega arith)
puts_one (Puts.short h) (Puts.short k) = (refl, refl)

pub writes_one : {IsText : List ℕ → Type 0} → ((t u : List ℕ) → IsText t → IsText u → t ≡ u)
    → {b b₁ b₂ : List ℕ} {at : ℕ} {r₁ r₂ : Result ℕ Refusal} → Writes IsText b at b₁ r₁ → Writes IsText b at b₂ r₂ → (b₁ ≡ b₂) × (r₁ ≡ r₂)
writes_one one {b} {b₁} {at = at} {r₁ = r₁} (Writes.writes {t} x h) (Writes.writes {t = u} y k) = puts_one (subst (λ (z : List ℕ). Puts z b at b₁ r₁) (one t u x y) h) k

module _ {b b₁ b₂ : List ℕ} {at : ℕ} {r₁ r₂ : Result ℕ Refusal} where
  pub put_number_one : {n : ℕ} → PutNumber n b at b₁ r₁ → PutNumber n b at b₂ r₂ → (b₁ ≡ b₂) × (r₁ ≡ r₂)
  put_number_one = writes_one (λ t u x y. decimal_one x y)

  pub put_whole_one : {x : ℤ} → PutWhole x b at b₁ r₁ → PutWhole x b at b₂ r₂ → (b₁ ≡ b₂) × (r₁ ≡ r₂)
  put_whole_one = writes_one (λ t u x y. whole_one x y)

-- a sign and a magnitude have one text
signs_one : {neg : Bool} {n : ℕ} {t u : List ℕ} → Signs neg n t → Signs neg n u → t ≡ u
signs_one {neg} {n} (Signs.signs {k} v) (Signs.signs {k = j} w) = by neg
  where
    by : (g : Bool) → whole_text g k n ≡ whole_text g j n
    by true = ap (λ (x : List ℕ). dash ∷ x) (decimal_one (decimal_of v) (decimal_of w))
    by false = decimal_one (decimal_of v) (decimal_of w)

pub put_at_one : {neg : Bool} {n : ℕ} {b b₁ b₂ : List ℕ} {at : ℕ} {r₁ r₂ : Result ℕ Refusal} → Writes (Signs neg n) b at b₁ r₁ → Writes (Signs neg n) b at b₂ r₂ → (b₁ ≡ b₂) × (r₁ ≡ r₂)
put_at_one = writes_one (λ t u x y. signs_one x y)

pub write_ymd_one : {y : ℤ} {m d : ℕ} {b b₁ b₂ : List ℕ} {r₁ r₂ : Result ℕ Refusal} → WriteYmd y m d b b₁ r₁ → WriteYmd y m d b b₂ r₂ → (b₁ ≡ b₂) × (r₁ ≡ r₂)
write_ymd_one = writes_one (λ t u x y. ymd_one x y)
