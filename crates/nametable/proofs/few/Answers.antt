-- `nametable::few` meets its promise.
use Rattle.nametable.specs.HashLaws.{few_four, few_none, few_some}
use Rattle.nametable.proofs.few.Goals as goal

pub returns-then-n-ge4 : goal.returns-then-n-ge4
returns-then-n-ge4 c = few_four _ c.if-n-ge4.true c.four_at.ensures.is c.four_at-then-n-ge4.ensures.is

pub returns-then-n-lt1 : goal.returns-then-n-lt1
returns-then-n-lt1 c = few_none _ c.if-n-ge4.false c.if-n-lt1.true

pub returns : goal.returns
returns c = few_some _ c.if-n-ge4.false c.if-n-lt1.false c.wide.ensures.0 c.wide-2.ensures.0 c.wide-3.ensures.0
