-- `monthdays::days_before` meets its promise.
use native.Mathlib.Omega.{arith}
use borrow.Author.Tests.{lt-ltb, le-ltb}
use Rattle.monthdays.proofs.days_before.Goals as goal

pub returns-then-month-lt3 : goal.returns-then-month-lt3
returns-then-month-lt3 c = simp (le-ltb 2 c.args.month (omega arith)) (omega arith)

pub returns-then-leap : goal.returns-then-leap
returns-then-leap c = simp (lt-ltb 2 c.args.month (omega arith), c.if-leap.true)

pub returns : goal.returns
returns c = simp (lt-ltb 2 c.args.month (omega arith), c.if-leap.false)
