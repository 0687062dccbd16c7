-- `catalogue::named` meets its promise.
use mir.Facts.{to_z-of_z}
use borrow.Author.Rules.{rules}
use mir.Syntax.{w32}
use mir.Val.{SFits}
use Rattle.refusals.specs.Passed.{passed_on}
use Rattle.ncal.specs.Promise.{of_row}
use Rattle.catalogue.specs.Promise.{built_in, held}
use Rattle.catalogue.proofs.Laws.{in_row, not_built_in, unknown_in}
use Rattle.catalogue.proofs.named.Goals as goal

pub returns-in-Some : goal.returns-in-Some
returns-in-Some c = built_in (of_row (in_row c.in-Some.ensures))

pub returns-in_err-ok_or-in-None : goal.returns-in_err-ok_or-in-None
returns-in_err-ok_or-in-None c = rw (passed_on _ c.from_residual.ensures.1) (unknown_in (not_built_in c.in-None.ensures) c.find.ensures c.refusal_at.ensures c.in_err-ok_or-in-None.ensures.value)

pub returns-in_ok-ok_or-in-None : goal.returns-in_ok-ok_or-in-None
returns-in_ok-ok_or-in-None c =
    let fits : SFits w32 c.in_ok-ok_or-in-None.field-0 = search rules in
    held (not_built_in c.in-None.ensures) (rw c.in_ok-ok_or-in-None.ensures.ok_part at c.find.ensures) (rw (to_z-of_z {w = w32} fits) at c.house_calendar.ensures)
