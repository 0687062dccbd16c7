-- What `put_header` promises. `line_of` answers with `line_of` of `Columns`.
use Rattle.std.specs.Prelude.{ℕ, ◌≡◌, List, Result}
use Rattle.writer.specs.Promise.{Writes}
use Rattle.columns.specs.Columns.{header}
use Rattle.refusals.specs.declared.Refusal.{Refusal}

-- 18, or the header, in a buffer b from `at` on
abbrev pub PutsHeader : List ℕ → ℕ → List ℕ → Result ℕ Refusal → Type 0
PutsHeader = Writes (λ (t : List ℕ). t ≡ header)
