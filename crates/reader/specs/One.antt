-- A reader's move has one answer, and leaves one reader.
-- Assumes nothing.
use Rattle.std.specs.Prelude.{ℕ, ◌≡◌, List, Result, ℤ}
use Rattle.std.proofs.Common.{sym, ◌∙◌, ap, ap₂}
use Rattle.std.specs.Borrow.{Bor}
use Rattle.numbertext.specs.Promise.{NumberAt, SignedAt, DashAt}
use Rattle.numbertext.specs.One.{number_one, signed_one, dash_one}
use Rattle.reader.specs.declared.Reader.{Reader}
use Rattle.reader.specs.Promise.{pair_end, dash_end, after, Moves}
use Rattle.refusals.specs.declared.Refusal.{Refusal}

moves_one : {A : Type 0} {ReadAt : List ℕ → ℕ → Result A Refusal → Type 0} {end : A → ℕ} → ((s : List ℕ) (at : ℕ) (x y : Result A Refusal) → ReadAt s at x → ReadAt s at y → x ≡ y)
    → {r r₁ r₂ : Reader} {x y : Result A Refusal} → Moves ReadAt end r r₁ x → Moves ReadAt end r r₂ y → (x ≡ y) × (r₁ ≡ r₂)
moves_one {A} {ReadAt} {end} one {r} {r₁} {r₂} {x} {y} h k =
    let e : x ≡ y = one _ _ x y h.answer k.answer in
    (e, ap₂ reader (h.holds ∙ sym k.holds) (h.stands ∙ ap (λ (z : Result A Refusal). after end z r.at) e ∙ sym k.stands))
  where
    reader : Bor (List ℕ) → ℕ → Reader
    reader s n = record { src = s; at = n }

module _ {r r₁ r₂ : Reader} where
  pub number_move_one : {x y : Result (ℕ × ℕ) Refusal} → Moves NumberAt pair_end r r₁ x → Moves NumberAt pair_end r r₂ y → (x ≡ y) × (r₁ ≡ r₂)
  number_move_one = moves_one (λ s at x y. number_one)

  pub signed_move_one : {x y : Result (ℤ × ℕ) Refusal} → Moves SignedAt pair_end r r₁ x → Moves SignedAt pair_end r r₂ y → (x ≡ y) × (r₁ ≡ r₂)
  signed_move_one = moves_one (λ s at x y. signed_one)

  pub dash_move_one : {x y : Result ℕ Refusal} → Moves DashAt dash_end r r₁ x → Moves DashAt dash_end r r₂ y → (x ≡ y) × (r₁ ≡ r₂)
  dash_move_one = moves_one (λ s at x y. dash_one)
