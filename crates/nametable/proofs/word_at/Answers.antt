-- `nametable::word_at` meets its promise.
use Rattle.std.proofs.Common.{rules}
use Rattle.nametable.specs.Hash.{word_of}
use Rattle.nametable.proofs.word_at.Goals as goal

pub returns : goal.returns
unfolding word_of
returns c = search rules
