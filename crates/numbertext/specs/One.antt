-- A promise allows one result.
-- Assumes nothing.
use Rattle.std.specs.Prelude.{ℕ, ◌≡◌, List, Result, ℤ, ⊤}
use Rattle.std.proofs.Common.{sym, ◌∙◌}
use Rattle.numbertext.specs.Promise.{NumberAt, SignedAt, DashAt, EndAt}
use Rattle.numbertext.specs.Meaning.{number_is, signed_is, dash_is, end_is}
use Rattle.refusals.specs.declared.Refusal.{Refusal}

module _ {s : List ℕ} {at : ℕ} where
  pub number_one : {r q : Result (ℕ × ℕ) Refusal} → NumberAt s at r → NumberAt s at q → r ≡ q
  number_one h k = number_is h ∙ sym (number_is k)

  pub signed_one : {r q : Result (ℤ × ℕ) Refusal} → SignedAt s at r → SignedAt s at q → r ≡ q
  signed_one h k = signed_is h ∙ sym (signed_is k)

  pub dash_one : {r q : Result ℕ Refusal} → DashAt s at r → DashAt s at q → r ≡ q
  dash_one h k = dash_is h ∙ sym (dash_is k)

  pub end_one : {r q : Result ⊤ Refusal} → EndAt s at r → EndAt s at q → r ≡ q
  end_one h k = end_is h ∙ sym (end_is k)
