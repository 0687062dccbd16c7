-- `dateparse::parse_date` meets its promise.
use borrow.Author.Rules.{rules}
use mir.Syntax.{w32}
use mir.Facts.{to_z-of_z}
use Rattle.refusals.specs.Passed.{passed_on}
use Rattle.calendar.specs.Laws.{switch_runs, no_switch}
use Rattle.calendar.specs.Rows.{passes}
use Rattle.dateparse.specs.Laws.{fault_row, ordinal_row, ymd_row}
use Rattle.dateparse.proofs.parse_date.Goals as goal

pub returns-in_err-switch_of : goal.returns-in_err-switch_of
returns-in_err-switch_of c = rw (passed_on _ c.from_residual.ensures.1) (no_switch _ c.in_err-switch_of.ensures)

pub returns-in_err-written : goal.returns-in_err-written
returns-in_err-written c =
    rw (passed_on _ c.from_residual-in_err-written.ensures.1) (passes (switch_runs _ c.in_ok-switch_of.ensures).accepted (fault_row _ c.in_err-written.ensures))

pub returns-in-Ordinal : goal.returns-in-Ordinal
returns-in-Ordinal c =
    let accepted = (switch_runs _ c.in_ok-switch_of.ensures).accepted in
    passes accepted (ordinal_row _ (rw c.in-Ordinal.is at c.in_ok-written.ensures) accepted
    (rw (to_z-of_z {w = w32} {z = c.in-Ordinal.year} (search rules)) at c.at_ordinal_date.ensures) c.placed.ensures)

pub returns-in-Ymd : goal.returns-in-Ymd
returns-in-Ymd c =
    let accepted = (switch_runs _ c.in_ok-switch_of.ensures).accepted in
    passes accepted (ymd_row _ (rw c.in-Ymd.is at c.in_ok-written.ensures) accepted
    (rw (to_z-of_z {w = w32} {z = c.in-Ymd.year} (search rules)) at c.at_ymd.ensures) c.placed-in-Ymd.ensures)
