-- What a read by a reader promises: the answer of a read at its place, and where it stands then.
-- Assumes nothing.
use Rattle.std.specs.Prelude.{ℕ, ◌≡◌, List, Result, Ok, Err}
use Rattle.reader.specs.declared.Reader.{Reader}
use Rattle.refusals.specs.declared.Refusal.{Refusal}

-- where a read that is accepted ends: the place after it stands beside a number, and is all that a `-` answers
abbrev pub pair_end : {A : Type 0} → A × ℕ → ℕ
pair_end (x, next) = next

abbrev pub dash_end : ℕ → ℕ
dash_end next = next

-- where a reader that was at `at` goes on: after what was read there; a refused read does not move it
abbrev pub after : {A : Type 0} → (A → ℕ) → Result A Refusal → ℕ → ℕ
after end (Ok x) at = end x
after end (Err f) at = at

-- a read by a reader that was `r` and is `r'` then: the answer is that of a read at its place, it holds the same bytes, and it stands after what was read
pub record Moves {A : Type 0} (ReadAt : List ℕ → ℕ → Result A Refusal → Type 0) (end : A → ℕ) (r r' : Reader) (x : Result A Refusal) : Type 0 where
  pub answer : ReadAt r.src.now r.at x
  pub holds : r'.src ≡ r.src
  pub stands : r'.at ≡ after end x r.at
