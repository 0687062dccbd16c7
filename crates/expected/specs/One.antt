-- The promise allows one result.
-- Assumes nothing.
use Rattle.std.specs.Prelude.{ℕ, ◌+◌, ◌-◌, ◌<◌, ◌≤◌, ◌≡◌, Bool, true, false, List, ltb}
use Rattle.std.proofs.Common.{⊎_elim, arith, lt-ltb, le-ltb}
use Rattle.whole.specs.One.{whether_one}
use Rattle.whole.specs.Tests.{lt_or_ge}
use Rattle.digits.specs.Numerals.{Digit}
use Rattle.expected.specs.Promise.{Expects}
use Rattle.expected.specs.declared.Expected.{Expected}

abbrev expected : ℕ → Bool → Bool → Bool → Expected
expected k d p e = record { digits = k; dash = d; plus = p; ends = e }

digit_at : (k : ℕ) → k < 10 → Digit (48 + k)
digit_at k h = record { low = omega arith; high = omega arith }

-- of two counts none is the smaller one: the digit between them would tell
not_less : {u : List ℕ} {a c : Expected} → Expects u a → Expects u c → a.digits < c.digits → ⊥
not_less {u} {a} {c} p q h =
    let k : a.digits < 10 = omega (arith, q.few) in
    let b = 48 + a.digits in
    let back : b - 48 ≡ a.digits = omega arith in
    let e : ltb (b - 48) a.digits ≡ ltb (b - 48) c.digits = whether_one _ (ltb (b - 48) a.digits) (ltb (b - 48) c.digits) (p.digits b (digit_at a.digits k)) (q.digits b (digit_at a.digits k)) in
    let f : ltb (b - 48) a.digits ≡ false = le-ltb (b - 48) a.digits (omega arith) in
    let g : ltb (b - 48) c.digits ≡ true = lt-ltb (b - 48) c.digits (omega arith) in
    let z : ◌≡◌ {A = ℕ} 0 1 = cc in
    omega arith

pub expects_one : {u : List ℕ} {a c : Expected} → Expects u a → Expects u c → a ≡ c
expects_one {u} {a} {c} p q =
    let k : a.digits ≡ c.digits = ⊎_elim
    (λ h. absurd (not_less p q h))
    (λ h. ⊎_elim (λ g. absurd (not_less q p g)) (λ g. same h g) (lt_or_ge c.digits a.digits))
    (lt_or_ge a.digits c.digits) in
    let d : a.dash ≡ c.dash = whether_one _ a.dash c.dash p.dashes q.dashes in
    let s : a.plus ≡ c.plus = whether_one _ a.plus c.plus p.pluses q.pluses in
    let e : a.ends ≡ c.ends = whether_one _ a.ends c.ends p.ends q.ends in
    let w : expected a.digits a.dash a.plus a.ends ≡ expected c.digits c.dash c.plus c.ends = cc in
    w
  where
    same : {m n : ℕ} → n ≤ m → m ≤ n → m ≡ n
    same h g = omega arith
