-- `numbertext::way_out` meets its promise: the test is that of `way_out_value`.
use mathlib.Core.Path.{sym, ap}
use Rattle.numbertext.specs.Reading.{way_out_value}
use Rattle.numbertext.proofs.way_out.Goals as goal

pub returns-then-negative : goal.returns-then-negative
returns-then-negative c = sym (ap way_out_value c.if-negative.true)

pub returns-else-negative : goal.returns-else-negative
returns-else-negative c = sym (ap way_out_value c.if-negative.false)
