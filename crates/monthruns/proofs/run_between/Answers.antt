-- `monthruns::run_between` meets its promise.
use native.Mathlib.Omega.{arith}
use Rattle.monthruns.specs.Laws.{same_run}
use Rattle.monthruns.proofs.run_between.Goals as goal

pub returns : goal.returns
returns c = same_run (omega arith) (omega arith)
