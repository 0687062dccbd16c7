-- `linetext::put_small` meets its promise: the comparisons tell how many digits there are.
use Rattle.linetext.specs.Laws.{put_number}
use native.Mathlib.Omega.{arith}
use Prim.Native.Nat.{◌≤◌}
use Rattle.linetext.proofs.put_small.Goals as goal

pub returns-then-n-ge1000 : goal.returns-then-n-ge1000
returns-then-n-ge1000 c = put_number 3 _ c.requires.1 (λ h. c.if-n-ge1000.true) (omega arith) c.put_four.ensures

pub returns-then-n-ge100 : goal.returns-then-n-ge100
returns-then-n-ge100 c = put_number 2 _ c.if-n-ge1000.false (λ h. c.if-n-ge100.true) (omega arith) c.put_three.ensures

pub returns-then-n-ge10 : goal.returns-then-n-ge10
returns-then-n-ge10 c = put_number 1 _ c.if-n-ge100.false (λ h. c.if-n-ge10.true) (omega arith) c.put_two.ensures

pub returns : goal.returns
returns c = put_number 0 _ c.if-n-ge10.false (λ h. absurd (none h)) (omega arith) c.put_digit.ensures
  where
    none : 1 ≤ 0 → ⊥
    none h = omega arith
