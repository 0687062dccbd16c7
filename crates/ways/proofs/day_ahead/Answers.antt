-- `ways::day_ahead` meets its promise.
use borrow.Author.Rules.{sfits_of}
use mir.Facts.{to_z-of_z}
use Rattle.ways.specs.Promise.{there, nowhere}
use Rattle.ways.proofs.day_ahead.Goals as goal
use Rattle.ways.proofs.day_ahead.Goals.{After-is_last}

pub returns-then-is_last : goal.returns-then-is_last
returns-then-is_last c = nowhere (rw (to_z-of_z c.ranges.jdn) at (rw c.if-is_last.true at c.is_last.ensures))

pub ahead-requires : goal.ahead-requires
ahead-requires c = rw c.if-is_last.false at c.is_last.ensures

pub returns : goal.returns
returns c =
    let a = (goal.at.returns c).After-is_last in
    rw (to_z-of_z (sfits_of c.ahead.type_inv), rw (to_z-of_z a.ranges.jdn) at c.ahead.ensures)
    (there (rw (to_z-of_z a.ranges.jdn) at (rw c.if-is_last.false at a.is_last.ensures)))
