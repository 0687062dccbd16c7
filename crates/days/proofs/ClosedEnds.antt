-- The days before and after a day that is biased as a natural, raised by 2 ^ 31, and whether they are of 32 bits.
-- Assumes nothing.
use Rattle.std.specs.Prelude.{◌≡◌, ℕ, ◌+◌, ◌-◌, ◌<◌, ◌≤◌, ◌^◌, ℤ}
use Rattle.std.proofs.Common.{sym, ◌∙◌, ap, subst, arith, add-one}
use Rattle.std.proofs.Math.IntN.{suc_ℤ, pred_ℤ, -ℤ_one}
use Rattle.whole.specs.Biased.{unbias_suc, unbias_back}
use Rattle.whole.specs.Promise.{unbias}
use Rattle.whole.specs.Machine.{unbias_more}
use Rattle.whole.specs.Edge.{unbias_fits, unbias_fits_only}
use Rattle.days.specs.DayByDay.{Is32Bit}

pub suc_is : {n : ℤ} (x : ℕ) → unbias (2 ^ 31) x ≡ n → unbias (2 ^ 31) (x + 1) ≡ suc_ℤ n
suc_is x e = ap (unbias (2 ^ 31)) (add-one x) ∙ unbias_suc (2 ^ 31) x ∙ ap suc_ℤ e

pub pred_is : {n : ℤ} (x : ℕ) → 1 ≤ x → unbias (2 ^ 31) x ≡ n → unbias (2 ^ 31) (x - 1) ≡ pred_ℤ n
pred_is {n} x h e = sym (unbias_back (2 ^ 31) x 1 h) ∙ -ℤ_one (unbias (2 ^ 31) x) ∙ ap pred_ℤ e

pub raised_fits : {n : ℤ} (x : ℕ) → x < 2 ^ 32 → unbias (2 ^ 31) x ≡ n → Is32Bit n
raised_fits x h e = subst Is32Bit e (unbias_fits (2 ^ 31) x (omega arith) (omega arith))

pub suc_far : {n : ℤ} (x : ℕ) → unbias (2 ^ 31) x ≡ n → x ≡ 4_294_967_295 → ¬ Is32Bit (suc_ℤ n)
suc_far x e h f = omega (arith, unbias_fits_only (2 ^ 31) (x + 1) (subst Is32Bit (sym (suc_is x e)) f))

pub pred_far : {n : ℤ} (x : ℕ) → unbias (2 ^ 31) x ≡ n → x ≡ 0 → ¬ Is32Bit (pred_ℤ n)
pred_far {n} x e h f = never (unbias_fits_only (2 ^ 31 + 1) 0 (subst Is32Bit (sym is) f))
  where
    is : unbias (2 ^ 31 + 1) 0 ≡ pred_ℤ n
    is = sym (unbias_more (2 ^ 31) 1 0) ∙ -ℤ_one (unbias (2 ^ 31) 0) ∙ ap pred_ℤ (ap (unbias (2 ^ 31)) (sym h) ∙ e)

    never : (2 ^ 31 + 1 ≤ 0 + 2 ^ 31) × (0 < 2 ^ 31 + 1 + 2 ^ 31) → ⊥
    never p = omega arith
