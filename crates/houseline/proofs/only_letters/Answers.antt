-- `houseline::only_letters` meets its promise.
use Rattle.std.proofs.Common.{rules, tests, take, arith}
use Rattle.std.proofs.lemmas.Grind.{common_steps}
use Rattle.std.proofs.lemmas.Iterator.{cases_from_all, YieldsList-from_slice}
use Rattle.houseline.specs.Form.{Letter}
use Rattle.houseline.specs.Laws.{letters_told}
use Rattle.houseline.proofs.only_letters.Goals as goal

pub returns : goal.returns
returns c =
    letters_told (take c.args.end c.args.line.now) _
    (cases_from_all _ _ _ Letter (λ b. ¬ Letter b) c.all.ensures.ran (YieldsList-from_slice (take c.args.end c.args.line.now) (grind (arith, common_steps))) (λ x q k. search (rules, tests)) (λ x q k. search (rules, tests)))
