-- Two results that a promise allows for one input are equal, and a line has one text for one answer. The promise of `line_of` is an equation.
use Rattle.std.specs.Prelude.{ℕ, ◌≡◌, List, Result}
use Rattle.std.proofs.Common.{sym, ◌∙◌, subst}
use Rattle.writer.specs.One.{writes_one}
use Rattle.linetext.specs.Line.{Ended}
use Rattle.linetext.specs.One.{ended_one}
use Rattle.columns.specs.Columns.{line_of}
use Rattle.columns.specs.Promise.{PutsHeader}
use Rattle.refusals.specs.declared.Refusal.{Refusal}
use Rattle.calendar.specs.declared.Date.{Date}

pub ended_same : {a c : Result Date Refusal} {t u : List ℕ} → a ≡ c → Ended (line_of a) t → Ended (line_of c) u → t ≡ u
ended_same {u = u} e x y = ended_one x (subst (λ (d : Result Date Refusal). Ended (line_of d) u) (sym e) y)

pub put_header_one : {b b₁ b₂ : List ℕ} {at : ℕ} {r₁ r₂ : Result ℕ Refusal} → PutsHeader b at b₁ r₁ → PutsHeader b at b₂ r₂ → (b₁ ≡ b₂) × (r₁ ≡ r₂)
put_header_one = writes_one (λ t u x y. x ∙ sym y)
