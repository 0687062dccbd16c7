-- `digits::run_at` meets its promise. The loop's invariant is `Along`: what is still to come takes the number and the place to those of the
-- whole run. The measure is what is left of the slice.
use Rattle.std.proofs.Common.{get_or, sym, ◌∙◌, arith}
use Rattle.digits.specs.Numerals.{Digit}
use Rattle.digits.specs.Runs.{along_start, along_done, front_stop, front_end, digit_is}
use Rattle.digits.proofs.run_at.Goals as goal

pub loop-i-init : goal.loop-i-init
loop-i-init c = along_start _ _ _

pub overflow_mul-n : goal.overflow_mul-n
overflow_mul-n c = omega arith

pub overflow_sub-n : goal.overflow_sub-n
overflow_sub-n c = let d : Digit (get_or c.args.s.now c.loop-i.i 0) = digit_is _ (sym c.is_digit.ensures ∙ c.if-is_digit.true) in omega arith

pub overflow_cast-b : goal.overflow_cast-b
overflow_cast-b c = omega (arith, c.type_inv.s c.loop-i.i)

pub overflow_add-n : goal.overflow_add-n
overflow_add-n c = let d : Digit (get_or c.args.s.now c.loop-i.i 0) = digit_is _ (sym c.is_digit.ensures ∙ c.if-is_digit.true) in omega arith

pub returns-else-is_digit : goal.returns-else-is_digit
returns-else-is_digit c = c.run_ends.ensures ∙ along_done c.loop-i.invariant (front_stop _ _ c.loop-i-test.true (sym c.is_digit.ensures ∙ c.if-is_digit.false))

pub returns : goal.returns
returns c = c.run_ends-2.ensures ∙ along_done c.loop-i.invariant (front_end _ _ c.loop-i-test.false)
