-- `linetext::put_few` meets its promise: the comparisons tell how many digits there are.
use Rattle.linetext.specs.Laws.{put_number}
use native.Mathlib.Omega.{arith}
use Prim.Native.Nat.{◌≤◌}
use Rattle.linetext.proofs.put_few.Goals as goal

pub returns-then-n-lt10 : goal.returns-then-n-lt10
returns-then-n-lt10 c = put_number 0 _ c.if-n-lt10.true (λ h. absurd (none h)) (omega arith) c.put_digit.ensures
  where
    none : 1 ≤ 0 → ⊥
    none h = omega arith

pub returns-then-n-lt1000 : goal.returns-then-n-lt1000
returns-then-n-lt1000 c = put_number 2 _ c.if-n-lt1000.true (λ h. omega arith) (omega arith) c.put_three.ensures
