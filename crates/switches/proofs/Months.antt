-- A month past 12 is refused.
use Rattle.std.proofs.Common.{◌≡◌, ℕ, ◌<◌, arith, pos}
use Rattle.refusals.specs.Promise.{refusal}
use Rattle.refusals.specs.declared.Refusal.{Refusal}
use Rattle.switches.specs.Promise.{SpansMonth, no_month}
use Rattle.std.specs.Prelude.{Err}

pub refused_past_12 : {r y m : ℕ} {a : Refusal} → 12 < m → a ≡ refusal 3 0 (pos m) → SpansMonth r y m (Err a)
refused_past_12 h e = rw e (no_month (λ v. omega (arith, v.1)))
