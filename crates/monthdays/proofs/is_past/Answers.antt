-- `monthdays::is_past` meets its promise.
use mathlib.Core.Path.{sym}
use mathlib.Core.Bool.{true≢false}
use native.Mathlib.Omega.{arith}
use borrow.Author.Tests.{ltb-true, ltb-false}
use Rattle.monthdays.specs.Laws.{month_least}
use Rattle.monthdays.proofs.is_past.Goals as goal

pub returns-then-day-le28 : goal.returns-then-day-le28
returns-then-day-le28 c = (λ e. absurd (true≢false (sym e)), λ e. omega (arith, month_least c.args.leap c.args.month c.requires))

pub returns : goal.returns
returns c =
    let l = c.days_in_month.result in
    let d = c.args.day in
    (λ e. omega (arith, c.days_in_month.ensures, ltb-true l d e), λ e. omega (arith, c.days_in_month.ensures, ltb-false l d e))
