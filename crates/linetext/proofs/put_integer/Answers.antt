-- `linetext::put_integer` meets its promise.
use Rattle.linetext.specs.Laws.{whole_column}
use mathlib.Core.Path.{ap, ◌∙◌}
use lib.IntN.{nat_abs}
use mir.Facts.{to_z-of_z}
use Rattle.whole.specs.Promise.{is_negative_value}
use Rattle.linetext.proofs.put_integer.Goals as goal

pub returns : goal.returns
returns c =
    let r = to_z-of_z c.ranges.x in
    whole_column (c.is_negative-negative.ensures ∙ ap is_negative_value r) (c.magnitude-n.ensures ∙ ap nat_abs r) c.requires c.put_with_sign-next.ensures c.put_byte.ensures
