-- `writer::put_whole` meets its promise.
use mathlib.Core.Path.{ap, ◌∙◌}
use lib.IntN.{nat_abs}
use mir.Facts.{to_z-of_z}
use Rattle.whole.specs.Promise.{is_negative_value}
use Rattle.writer.specs.Laws.{as_whole}
use Rattle.writer.proofs.put_whole.Goals as goal

pub returns : goal.returns
returns c =
    let r = to_z-of_z c.ranges.x in
    as_whole (c.is_negative-negative.ensures ∙ ap is_negative_value r) (c.magnitude-n.ensures ∙ ap nat_abs r) c.put_at.ensures
