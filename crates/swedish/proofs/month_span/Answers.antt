-- `swedish::month_span` meets its promise.
use native.Mathlib.Omega.{arith}
use Rattle.swedish.specs.Promise.{spans_month, no_month}
use Rattle.swedish.proofs.month_span.Goals as goal

pub returns-then-month-lt1 : goal.returns-then-month-lt1
returns-then-month-lt1 c = rw c.refusal_with.ensures (no_month (λ v. omega (arith, v, c.then-month-lt1.either)))

pub returns : goal.returns
returns c = spans_month (c.if-month-lt1.false, c.if-month-gt12.false) c.days_of-m.ensures
