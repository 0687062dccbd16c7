-- `ways::next_step` meets its promise.
use mir.Facts.{to_z-of_z}
use Rattle.ways.proofs.next_step.Goals as goal

pub on_the_last-requires : goal.on_the_last-requires
on_the_last-requires c = rw c.if-is_last.true at c.is_last.ensures

pub returns-then-is_last : goal.returns-then-is_last
returns-then-is_last c = rw (to_z-of_z c.ranges.jdn) at c.on_the_last.ensures

pub on_the_way-requires : goal.on_the_way-requires
on_the_way-requires c = rw c.if-is_last.false at c.is_last.ensures

pub returns : goal.returns
returns c = rw (to_z-of_z c.ranges.jdn) at c.on_the_way.ensures
