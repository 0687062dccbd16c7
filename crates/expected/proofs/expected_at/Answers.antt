-- `expected::expected_at` meets its promise: the bytes before the lesser of the place and the end are those before the place.
use Rattle.std.specs.Prelude.{ℕ, List, take}
use mathlib.Core.Path.{subst, ap, ◌∙◌}
use Rattle.std.proofs.lemmas.List.{take_min}
use Rattle.expected.specs.Promise.{Expects}
use Rattle.expected.proofs.expected_at.Goals as goal

pub returns : goal.returns
returns c =
    let s = c.args.text.now in
    subst (λ (u : List ℕ). Expects u c.expected_after.result) (ap (λ (k : ℕ). take k s) c.min.ensures ∙ take_min c.args.place s) c.expected_after.ensures
