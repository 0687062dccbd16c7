use Prim.Native.Nat.{◌+◌, ◌-◌, ◌^◌}
use native.Mathlib.Omega.{arith}
use Rattle.whole.specs.Edge.{biased_minus, biased_plus, narrows_below, narrows_above, narrows_fits}
use Rattle.whole.proofs.signed.Goals as goal

pub returns-then-magnitude-gt2147483648 : goal.returns-then-magnitude-gt2147483648
returns-then-magnitude-gt2147483648 c =
    let m = c.args.magnitude in
    rw c.if-negative.true (narrows_below m (m - m) (biased_minus m m (omega arith)) (omega arith) (omega arith))

pub returns-then-negative : goal.returns-then-negative
returns-then-negative c =
    let m = c.args.magnitude in
    rw c.if-negative.true (narrows_fits (2 ^ 31) (2 ^ 31 - m) (biased_minus (2 ^ 31) m c.if-magnitude-gt2147483648.false) (omega arith) (2 ^ 31 - m) (omega arith) (omega arith) c.lowered.ensures)

pub returns-then-magnitude-ge2147483648 : goal.returns-then-magnitude-ge2147483648
returns-then-magnitude-ge2147483648 c =
    let m = c.args.magnitude in
    rw c.if-negative.false (narrows_above (2 ^ 31) (2 ^ 31 + m) (biased_plus (2 ^ 31) m) (omega arith) (omega arith))

pub returns : goal.returns
returns c =
    let m = c.args.magnitude in
    rw c.if-negative.false (narrows_fits (2 ^ 31) (2 ^ 31 + m) (biased_plus (2 ^ 31) m) (omega arith) (2 ^ 31 + m) (omega arith) (omega arith) c.lowered-2.ensures)
