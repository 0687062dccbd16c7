-- `digits::digit_at` meets its promise: the difference wraps as `digit_value` does.
use Rattle.std.proofs.Common.{arith}
use Rattle.digits.specs.Few.{digit_past, digit_here}
use Rattle.digits.proofs.digit_at.Goals as goal

pub returns-then-at-s : goal.returns-then-at-s
returns-then-at-s c = digit_past _ _ c.if-at-s.true

pub overflow_cast-b : goal.overflow_cast-b
overflow_cast-b c = omega (arith, c.type_inv.s c.args.at)

pub returns : goal.returns
returns c = digit_here _ _ c.if-at-s.false c.wrapping_sub_u32.result c.wrapping_sub_u32.ensures.value c.wrapping_sub_u32.type_inv
