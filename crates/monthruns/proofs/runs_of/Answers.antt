-- `monthruns::runs_of` meets its promise.
use mir.Facts.{to_z-of_z}
use Rattle.refusals.specs.Passed.{passed_on}
use Rattle.months.specs.Laws.{span_is, span_refused}
use Rattle.monthruns.specs.Laws.{all_inside, runs_row}
use Rattle.monthruns.proofs.runs_of.Goals as goal

pub runs_in-requires : goal.runs_in-requires
runs_in-requires c = all_inside _ _ (span_is (rw (to_z-of_z c.ranges.year) at c.in_ok-s.ensures))

pub returns-in_err-s : goal.returns-in_err-s
returns-in_err-s c = rw (passed_on _ c.from_residual.ensures.1) (span_refused (rw (to_z-of_z c.ranges.year) at c.in_err-s.ensures))

pub returns : goal.returns
returns c = runs_row _ _ (span_is (rw (to_z-of_z c.ranges.year) at c.in_ok-s.ensures)) c.runs_in.ensures
