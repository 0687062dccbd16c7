-- A refusal by its number, its place and its value.
use Rattle.std.specs.Prelude.{ℕ, ℤ}
use Rattle.refusals.specs.declared.Refusal.{Refusal}

abbrev pub refusal : ℕ → ℕ → ℤ → Refusal
refusal n p v = record { number = n; place = p; value = v }
