-- `reasons::of_ordinal` meets its promise.
use mir.Facts.{to_z-of_z}
use Rattle.reasons.specs.Laws.{ordinal_date, ordinal_off, ordinal_outside}
use mir.Syntax.{w32}
use Rattle.reasons.proofs.of_ordinal.Goals as goal

pub off_year-requires : goal.off_year-requires
off_year-requires c =
    rw (to_z-of_z {w = w32} c.ranges.year) (c.requires, ordinal_off c.args.calendar c.requires c.args.year c.args.ordinal c.args.place (rw (to_z-of_z {w = w32} c.ranges.year) at c.in-Err.ensures) c.if-why-eq6.true)

pub returns-then-why-eq6 : goal.returns-then-why-eq6
returns-then-why-eq6 c = rw (to_z-of_z {w = w32} c.ranges.year) at c.off_year.ensures

pub returns-in-Ok : goal.returns-in-Ok
returns-in-Ok c =
    rw c.accepted.ensures (ordinal_date c.args.calendar c.requires c.args.year c.args.ordinal c.args.place (rw (to_z-of_z {w = w32} c.ranges.year) at c.in-Ok.ensures))

pub returns-else-why-eq6 : goal.returns-else-why-eq6
returns-else-why-eq6 c =
    rw c.outside.ensures (rw (to_z-of_z {w = w32} c.ranges.year) (ordinal_outside c.args.calendar c.requires c.args.year c.args.ordinal c.args.place (rw (to_z-of_z {w = w32} c.ranges.year) at c.in-Err.ensures) c.if-why-eq6.false))
