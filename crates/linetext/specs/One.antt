-- A line has one text, and two results that a promise allows for one input are equal.
use Rattle.std.specs.Prelude.{ℕ, ◌≡◌, List, [], ◌∷◌, ◌++◌, ℤ, Result}
use Rattle.std.proofs.Common.{ap, ap₂}
use Rattle.writer.specs.Promise.{Writes}
use Rattle.writer.specs.One.{whole_one, writes_one}
use Rattle.linetext.specs.Line.{mark, Columns, letters, LineText, of_numbers, of_refusal, Ended, ended}
use Rattle.whole.specs.Text.{newline, tab}
use Rattle.linetext.specs.Promise.{LineOut}
use Rattle.refusals.specs.declared.Refusal.{Refusal}
use Rattle.linetext.specs.declared.LineNumbers.{LineNumbers}

columns_one : {xs : List ℤ} {t u : List ℕ} → Columns xs t → Columns xs u → t ≡ u
columns_one (Columns.one w) (Columns.one v) = whole_one w v
columns_one (Columns.one w) (Columns.more v d) = elim d [ ]
columns_one (Columns.more w c) (Columns.one v) = elim c [ ]
columns_one (Columns.more w c) (Columns.more v d) = ap₂ (λ (t u : List ℕ). t ++ (tab ∷ u)) (whole_one w v) (columns_one c d)

line_text_one : {l : Result LineNumbers Refusal} {t u : List ℕ} → LineText l t → LineText l u → t ≡ u
line_text_one (of_numbers {r} c) (of_numbers d) = ap (λ (t : List ℕ). t ++ (tab ∷ letters r.style)) (columns_one c d)
line_text_one (of_refusal c) (of_refusal d) = ap (λ (t : List ℕ). mark ∷ (tab ∷ t)) (columns_one c d)

pub ended_one : {l : Result LineNumbers Refusal} {t u : List ℕ} → Ended l t → Ended l u → t ≡ u
ended_one (ended x) (ended y) = ap (λ (t : List ℕ). t ++ (newline ∷ [])) (line_text_one x y)

pub put_line_one : {l : Result LineNumbers Refusal} {b b₁ b₂ : List ℕ} {at : ℕ} {r₁ r₂ : Result ℕ Refusal} → Writes (LineOut l) b at b₁ r₁ → Writes (LineOut l) b at b₂ r₂ → (b₁ ≡ b₂) × (r₁ ≡ r₂)
put_line_one = writes_one (λ t u x y. ended_one x.is y.is)
