-- `nametable::Names::new` meets its promise.
use Rattle.std.specs.Prelude.{◌+◌, ◌*◌}
use Rattle.std.proofs.Common.{arith, refl}
use Rattle.std.proofs.lemmas.List.{get_or-replicate}
use Rattle.nametable.specs.Limits.{most_lines, heads}
use Rattle.nametable.specs.Theorems.{cleared_holds}
use Rattle.nametable.proofs.Names.new.Goals as goal

pub returns-clause-cleared : goal.returns-clause-cleared
returns-clause-cleared c = refl

pub returns-clause-empty : goal.returns-clause-empty
returns-clause-empty c = cleared_holds _ (record { names = refl; links = refl }) (λ b h. get_or-replicate (heads + 2 * most_lines) b 0 0 (omega (arith, h)))
