-- `nametable::mixed` meets its promise.
use Rattle.nametable.specs.Hash.{mix_of, spread}
use Rattle.std.proofs.Common.{ap}
use Rattle.nametable.proofs.mixed.Goals as goal

pub returns : goal.returns
unfolding mix_of
returns c = ap spread c.wrapping_add_u64-x.ensures.value
