-- `nametable::bucket_of` meets its promise.
use Rattle.nametable.specs.HashLaws.{short_chain, long_chain}
use Rattle.std.proofs.Common.{◌∙◌}
use Rattle.nametable.proofs.bucket_of.Goals as goal

pub returns-then-s-lt8 : goal.returns-then-s-lt8
returns-then-s-lt8 c = (c.chain_of.ensures.0 ∙ short_chain _ c.if-s-lt8.true c.few.ensures c.mixed.ensures, c.chain_of.ensures.1)

pub returns : goal.returns
returns c = (c.chain_of-2.ensures.0 ∙ long_chain _ c.if-s-lt8.false c.many.ensures, c.chain_of-2.ensures.1)
