-- Two answers that the promise of a reader allows are one.
-- Assumes nothing.
use Rattle.std.specs.Prelude.{ℕ, ◌≡◌, List, Result}
use Rattle.std.proofs.Common.{sym, ◌∙◌}
use Rattle.datetext.specs.Promise.{ReadDate}
use Rattle.datetext.proofs.Laws.{complete}
use Rattle.datetext.specs.declared.Text.{Text}
use Rattle.refusals.specs.declared.Refusal.{Refusal}

pub read_one : {s : List ℕ} {r q : Result Text Refusal} → ReadDate s r → ReadDate s q → r ≡ q
read_one h k = sym (complete h) ∙ complete k
