-- `switches::non_gregorian_refusal` meets its promise, way by way.
use native.Mathlib.Omega.{arith}
use borrow.Author.Rules.{rules}
use Rattle.switches.specs.Laws.{ordinal_sum, non_gregorian_year, non_julian, over_by_then, not_over_then}
use Rattle.switches.proofs.non_gregorian_refusal.Goals as goal

pub returns-then-switch-start : goal.returns-then-switch-start
returns-then-switch-start c = non_gregorian_year c.args.year c.gregorian_start-start.ensures c.if-switch-start.true

pub month_in-new-requires : goal.month_in-new-requires
month_in-new-requires c = let t = (ordinal_sum c.in-Some.ensures).0 in ((t.0, t.1), search rules)

pub returns-then-new-switch : goal.returns-then-new-switch
returns-then-new-switch c =
    over_by_then c.args.year c.is_julian_leap.ensures c.is_gregorian_leap.ensures c.gregorian_start-start.ensures c.in-Some.ensures c.month_in-new.ensures (omega arith)

pub returns-in-None : goal.returns-in-None
returns-in-None c =
    non_julian c.args.year c.is_julian_leap.ensures c.in-None.ensures

pub returns-else-new-switch : goal.returns-else-new-switch
returns-else-new-switch c =
    not_over_then c.args.year c.is_julian_leap.ensures c.is_gregorian_leap.ensures c.gregorian_start-start.ensures c.in-Some.ensures c.month_in-new.ensures (omega arith)
