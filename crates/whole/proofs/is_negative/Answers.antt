use mathlib.Core.Path.{ap, ◌∙◌}
use Prim.Native.Nat.{◌^◌}
use mir.Facts.{to_z-of_z}
use Rattle.whole.specs.Edge.{negative_is}
use Rattle.whole.specs.Promise.{is_negative_value}
use Rattle.whole.proofs.is_negative.Goals as goal

pub returns : goal.returns
returns c = negative_is (2 ^ 63) c.raised64.result ∙ ap is_negative_value (c.raised64.ensures ∙ to_z-of_z c.ranges.x)
