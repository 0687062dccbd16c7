-- `datetext::usual::usual_month` meets its promise: the digits before the dash are those of the month.
use mathlib.Core.Path.{sym, ◌∙◌}
use native.Mathlib.Omega.{arith}
use Rattle.digits.specs.Few.{digit_seen}
use Rattle.datetext.specs.Usual.{IfAt, two_digit_month, one_digit_month}
use Rattle.datetext.proofs.usual.usual_month.Goals as goal
use Rattle.datetext.proofs.usual.usual_month.Goals.{After-digit_at-month, After-pair_at-month}

pub returns-then-is_month : goal.returns-then-is_month
returns-then-is_month c =
    let p = (goal.at.returns-then-is_month c).After-pair_at-month in
    IfAt.found (two_digit_month _ (sym c.is_month.ensures ∙ c.if-is_month.true) (omega arith) p.if-text-at-eq45.true p.pair_at-month.ensures)

pub returns-then-is_month-2 : goal.returns-then-is_month-2
returns-then-is_month-2 c =
    let d = (goal.at.returns-then-is_month-2 c).After-digit_at-month in
    IfAt.found (one_digit_month _ (sym c.is_month-then-text-at-eq45-2.ensures ∙ c.if-is_month-2.true) (omega arith) d.if-text-at-eq45-2.true (digit_seen _ _ d.digit_at-month.ensures (omega arith)))
