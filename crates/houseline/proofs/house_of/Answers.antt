-- `houseline::house_of` meets its promise.
use Rattle.std.specs.Prelude.{Ok, Err}
use Rattle.refusals.specs.Passed.{passed_on}
use Rattle.houseline.specs.Laws.{outcome_is}
use Rattle.houseline.proofs.house_of.Goals as goal

pub returns-in_err-number : goal.returns-in_err-number
returns-in_err-number c = rw (passed_on _ c.from_residual.ensures.1) (outcome_is (Err _) c.requires.0 c.requires.1 c.signed_at.ensures c.in_err-number.ensures.cases)

pub returns : goal.returns
returns c = outcome_is (Ok (c.in_ok-number.number, _)) c.requires.0 c.requires.1 c.signed_at.ensures c.in_ok-number.ensures.cases
