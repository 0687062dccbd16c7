-- `reasons::missing` meets its promise.
use mir.Facts.{to_z-of_z}
use Rattle.reasons.specs.Laws.{missing_row, runs_told}
use mir.Syntax.{w32}
use Rattle.reasons.proofs.missing.Goals as goal

pub unwrap-requires : goal.unwrap-requires
unwrap-requires c =
    runs_told c.args.calendar c.requires.0 c.args.year c.args.month c.args.day c.args.place c.requires.1 (rw (to_z-of_z {w = w32} c.ranges.year) at c.runs_of.ensures)

pub returns : goal.returns
returns c =
    rw c.refusal_at.ensures (rw (to_z-of_z {w = w32} c.ranges.year) (missing_row c.args.calendar c.requires.0 c.args.year c.args.month c.args.day c.args.place c.requires.1 c.requires.2 (rw (to_z-of_z {w = w32} c.ranges.year, c.unwrap.ensures) at c.runs_of.ensures)))
