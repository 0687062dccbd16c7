-- `monthdays::days_in_month` meets its promise, arm by arm.
use Rattle.std.proofs.Common.{sym, ◌∙◌, ap, arith, Bool, cond}
use Rattle.days.proofs.ClosedMonths.{february, short, long, no_month}
use Rattle.monthdays.proofs.days_in_month.Goals as goal

pub returns-then-month-lt1 : goal.returns-then-month-lt1
returns-then-month-lt1 c = sym (no_month c.args.leap c.args.month (λ p. omega (arith, p.0)))

pub returns-then-month-gt12 : goal.returns-then-month-gt12
returns-then-month-gt12 c = sym (no_month c.args.leap c.args.month (λ p. omega (arith, p.1)))

pub returns-then-leap : goal.returns-then-leap
returns-then-leap c = sym (february _ _ c.in-2.is ∙ ap (λ (b : Bool). cond b 29 28) c.if-leap.true)

pub returns-else-leap : goal.returns-else-leap
returns-else-leap c = sym (february _ _ c.in-2.is ∙ ap (λ (b : Bool). cond b 29 28) c.if-leap.false)

pub returns-in-4 : goal.returns-in-4
returns-in-4 c = sym (short _ _ c.in-4.is)

pub returns-in_default : goal.returns-in_default
returns-in_default c = sym (long _ _ c.if-month-lt1.false c.if-month-gt12.false (c.in_default.in_default-own.rest.0.1) (c.in_default.in_default-own.rest.1))
