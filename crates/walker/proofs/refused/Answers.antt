-- `walker::refused` meets its promise.
use mathlib.Core.Path.{ap}
use Rattle.refusals.specs.declared.Refusal.{Refusal}
use Rattle.walker.specs.Promise.{moved}
use Rattle.walker.proofs.refused.Goals as goal
use Rattle.std.specs.Prelude.{Err}

pub returns : goal.returns
returns c = ap (λ (f : Refusal). moved (Err f) c.args.walker) c.refusal_of.ensures
