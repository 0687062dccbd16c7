use mathlib.Core.Path.{◌∙◌}
use Prim.Native.Nat.{◌-◌, ◌^◌}
use native.Mathlib.Omega.{arith}
use mir.Facts.{to_z-of_z}
use Rattle.whole.specs.Edge.{narrows_below, narrows_above, narrows_fits}
use Rattle.whole.proofs.narrow.Goals as goal

pub returns-then-k-lt9223372034707292160 : goal.returns-then-k-lt9223372034707292160
returns-then-k-lt9223372034707292160 c = narrows_below (2 ^ 63) _ (c.raised64-k.ensures ∙ to_z-of_z c.ranges.x) (omega arith) c.if-k-lt9223372034707292160.true

pub returns-then-k-ge9223372039002259456 : goal.returns-then-k-ge9223372039002259456
returns-then-k-ge9223372039002259456 c = narrows_above (2 ^ 63) _ (c.raised64-k.ensures ∙ to_z-of_z c.ranges.x) (omega arith) c.if-k-ge9223372039002259456.true

pub returns : goal.returns
returns c =
    let k = c.raised64-k.result in
    narrows_fits (2 ^ 63) k (c.raised64-k.ensures ∙ to_z-of_z c.ranges.x) (omega arith)
    (k - (2 ^ 63 - 2 ^ 31)) (omega arith) (omega arith) c.lowered.ensures
