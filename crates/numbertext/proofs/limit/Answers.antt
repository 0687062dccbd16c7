-- `numbertext::limit` meets its promise: the test is that of `limit_of`.
use mathlib.Core.Path.{sym, ap}
use Rattle.numbertext.specs.Reading.{limit_of}
use Rattle.numbertext.proofs.limit.Goals as goal

pub returns-then-negative : goal.returns-then-negative
returns-then-negative c = sym (ap limit_of c.if-negative.true)

pub returns-else-negative : goal.returns-else-negative
returns-else-negative c = sym (ap limit_of c.if-negative.false)
