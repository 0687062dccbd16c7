-- `monthdays::to_thirty` meets its promise.
use Prim.Native.Nat.{◌+◌}
use native.Mathlib.Omega.{arith}
use borrow.Author.Tests.{lt-ltb, le-ltb}
use Rattle.monthdays.proofs.to_thirty.Goals as goal

pub returns-then-days-ge60 : goal.returns-then-days-ge60
returns-then-days-ge60 c = (simp (c.if-leap.true, lt-ltb 60 (c.args.days + 1) (omega arith)), omega arith)

pub returns-then-leap : goal.returns-then-leap
returns-then-leap c = (simp (c.if-leap.true, le-ltb 60 (c.args.days + 1) (omega arith)), omega arith)

pub returns-then-days-ge59 : goal.returns-then-days-ge59
returns-then-days-ge59 c = (simp (c.if-leap.false, lt-ltb 59 (c.args.days + 1) (omega arith)), omega arith)

pub returns : goal.returns
returns c = (simp (c.if-leap.false, le-ltb 59 (c.args.days + 1) (omega arith)), omega arith)
