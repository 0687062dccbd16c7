use mathlib.Core.Path.{sym, ap, ◌∙◌}
use Prim.Native.Nat.{◌^◌}
use lib.IntN.{nat_abs}
use mir.Facts.{to_z-of_z}
use Rattle.whole.specs.Biased.{abs_below, abs_above}
use Rattle.whole.proofs.magnitude.Goals as goal

pub returns-then-k-lt9223372036854775808 : goal.returns-then-k-lt9223372036854775808
returns-then-k-lt9223372036854775808 c =
    sym (abs_below (2 ^ 63) c.raised64-k.result c.if-k-lt9223372036854775808.true) ∙ ap nat_abs (c.raised64-k.ensures ∙ to_z-of_z c.ranges.x)

pub returns : goal.returns
returns c =
    sym (abs_above (2 ^ 63) c.raised64-k.result c.if-k-lt9223372036854775808.false) ∙ ap nat_abs (c.raised64-k.ensures ∙ to_z-of_z c.ranges.x)
