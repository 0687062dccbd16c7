-- Two results that a promise allows are equal.
-- Assumes nothing.
use Rattle.std.specs.Prelude.{ℕ, ◌^◌, ◌≡◌, Result}
use Rattle.std.proofs.Common.{refl, sym, ◌∙◌, ap, ap₂}
use Rattle.whole.specs.Biased.{unbias_injective}
use Rattle.refusals.specs.declared.Refusal.{Refusal}
use Rattle.calendar.specs.declared.Date.{Date}
use Rattle.benchsum.specs.Promise.{IsFields, is_fields, Adds, date, refusal, fields_value, plus_value}

pub fields_one : {d : Date} {a b : ℕ} → IsFields d a → IsFields d b → a ≡ b
fields_one {d} (is_fields j y e f) (is_fields k z g h) = ap₂ (fields_value d) (unbias_injective (2 ^ 31) j k (e ∙ sym g)) (unbias_injective (2 ^ 31) y z (f ∙ sym h))

pub adds_one : {sum : ℕ} {r : Result Date Refusal} {a b : ℕ} → Adds sum r a → Adds sum r b → a ≡ b
adds_one {sum} (date m p) (date n q) = ap (plus_value sum) (fields_one p q)
adds_one refusal refusal = refl
