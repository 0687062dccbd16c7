-- Whether d divides y − bias is whether it divides y, where d divides the bias.
-- Assumes nothing.
use Rattle.std.specs.Prelude.{◌≡◌, ℕ, ◌-◌, ◌<◌, ◌≤◌, ◌%◌, eqb}
use Rattle.std.proofs.Common.{sym, ◌∙◌, ap, ⊎_elim, arith, eq-eqb, ne_eqb}
use Rattle.days.specs.DayByDay.{divides}
use Rattle.whole.specs.Tests.{lt_or_ge, eq_or_not}
use Rattle.whole.specs.Biased.{abs_below, abs_above}
use Rattle.whole.specs.Promise.{unbias}
use Rattle.days.specs.BiasedDays.{year_bias}

-- two remainders that are 0 together
eqb_same : (a b : ℕ) → (a ≡ 0 → b ≡ 0) → (b ≡ 0 → a ≡ 0) → eqb a 0 ≡ eqb b 0
eqb_same a b f g = ⊎_elim (λ e. eq-eqb a 0 e ∙ sym (eq-eqb b 0 (f e))) (λ n. ne_eqb a 0 n ∙ sym (ne_eqb b 0 (λ e. n (g e)))) (eq_or_not a 0)

-- `omega` shows the two premises at a numeral d
divides_by : (d : ℕ) → ((y : ℕ) → y < year_bias → ((year_bias - y) % d ≡ 0 → y % d ≡ 0) × (y % d ≡ 0 → (year_bias - y) % d ≡ 0))
    → ((y : ℕ) → year_bias ≤ y → ((y - year_bias) % d ≡ 0 → y % d ≡ 0) × (y % d ≡ 0 → (y - year_bias) % d ≡ 0))
    → (y : ℕ) → divides d (unbias year_bias y) ≡ eqb (y % d) 0
divides_by d f g y = ⊎_elim
    (λ h. ap (λ (n : ℕ). eqb (n % d) 0) (abs_below year_bias y h) ∙ eqb_same ((year_bias - y) % d) (y % d) (f y h).0 (f y h).1)
    (λ h. ap (λ (n : ℕ). eqb (n % d) 0) (abs_above year_bias y h) ∙ eqb_same ((y - year_bias) % d) (y % d) (g y h).0 (g y h).1)
    (lt_or_ge y year_bias)

pub divides_4 : (y : ℕ) → divides 4 (unbias year_bias y) ≡ eqb (y % 4) 0
divides_4 = divides_by 4 (omega arith) (omega arith)

pub divides_100 : (y : ℕ) → divides 100 (unbias year_bias y) ≡ eqb (y % 100) 0
divides_100 = divides_by 100 (omega arith) (omega arith)

pub divides_400 : (y : ℕ) → divides 400 (unbias year_bias y) ≡ eqb (y % 400) 0
divides_400 = divides_by 400 (omega arith) (omega arith)
