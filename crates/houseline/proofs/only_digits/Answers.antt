-- `houseline::only_digits` meets its promise.
use Rattle.std.proofs.Common.{rules, tests, drop, length-drop, arith}
use Rattle.std.proofs.lemmas.Grind.{common_steps}
use Rattle.std.proofs.lemmas.Iterator.{cases_from_all, YieldsList-from_slice}
use Rattle.digits.specs.Numerals.{Digit}
use Rattle.houseline.specs.Laws.{numerals_told, digits_told, is_digit, no_digit}
use Rattle.houseline.proofs.only_digits.Goals as goal

pub returns : goal.returns
returns c =
    numerals_told (drop c.args.from c.args.line.now) _ (omega (arith, length-drop c.args.from c.args.line.now))
    (digits_told (drop c.args.from c.args.line.now) _
    (cases_from_all _ _ _ Digit (λ b. ¬ Digit b) c.all.ensures.ran (YieldsList-from_slice (drop c.args.from c.args.line.now) (grind (arith, common_steps))) (λ x q k. search (rules, tests, is_digit)) (λ x q k. search (rules, tests, no_digit))))
