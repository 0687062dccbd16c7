-- `reasons::off_year` meets its promise.
use mir.Facts.{to_z-of_z}
use Rattle.reasons.specs.Laws.{length_row, length_told}
use mir.Syntax.{w32}
use Rattle.reasons.proofs.off_year.Goals as goal

pub unwrap-requires : goal.unwrap-requires
unwrap-requires c =
    length_told c.args.calendar c.requires.0 c.args.year c.args.ordinal c.args.place (rw (to_z-of_z {w = w32} c.ranges.year) at c.year_length.ensures)

pub returns : goal.returns
returns c =
    rw c.refusal_at.ensures (rw (to_z-of_z {w = w32} c.ranges.year) (length_row c.args.calendar c.requires.0 c.args.year c.args.ordinal c.args.place c.requires.1 (rw (to_z-of_z {w = w32} c.ranges.year, c.unwrap.ensures) at c.year_length.ensures)))
