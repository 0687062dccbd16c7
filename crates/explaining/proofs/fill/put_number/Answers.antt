-- `explaining::fill::put_number` meets its promise.
use mathlib.Core.Path.{ap, ◌∙◌}
use lib.IntN.{nat_abs}
use mir.Facts.{to_z-of_z}
use Rattle.whole.specs.Promise.{is_negative_value}
use Rattle.explaining.specs.Laws.{number_done, number_told}
use mir.Syntax.{w64}
use Rattle.explaining.proofs.fill.put_number.Goals as goal

pub unwrap-requires : goal.unwrap-requires
unwrap-requires c = number_told _ c.magnitude-n.type_inv c.requires c.put_at.ensures

pub returns : goal.returns
returns c =
    let r = to_z-of_z {w = w64} c.ranges.x in
    number_done _ (c.is_negative-negative.ensures ∙ ap is_negative_value r) (c.magnitude-n.ensures ∙ ap nat_abs r) c.magnitude-n.type_inv (rw c.unwrap.ensures at c.put_at.ensures)
