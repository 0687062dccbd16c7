-- `reasons::skipped` meets its promise.
use Rattle.reasons.specs.Laws.{AroundGap, gap_sides, side_told, side_there}
use Rattle.reasons.proofs.skipped.Goals as goal

pub unwrap-requires : goal.unwrap-requires
unwrap-requires c = side_told _ c.requires.0 c.last_julian_date.ensures

pub unwrap-before-requires : goal.unwrap-before-requires
unwrap-before-requires c = side_there _ c.requires.1 (rw c.unwrap.ensures at c.last_julian_date.ensures)

pub unwrap-requires-2 : goal.unwrap-requires-2
unwrap-requires-2 c = side_told _ c.requires.0 c.first_gregorian_date.ensures

pub unwrap-after-requires : goal.unwrap-after-requires
unwrap-after-requires c = side_there _ c.requires.1 (rw c.unwrap-2.ensures at c.first_gregorian_date.ensures)

pub returns : goal.returns
returns c =
    rw c.refusal_at.ensures (AroundGap.around_gap (gap_sides
    (rw (c.unwrap.ensures, c.unwrap-before.ensures) at c.last_julian_date.ensures)
    (rw (c.unwrap-2.ensures, c.unwrap-after.ensures) at c.first_gregorian_date.ensures)))
