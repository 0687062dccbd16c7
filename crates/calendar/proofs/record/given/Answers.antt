-- `calendar::record::given` meets its promise.
use borrow.Author.Rules.{rules}
use mir.Syntax.{w32}
use mir.Val.{SFits}
use mir.Facts.{to_z-of_z}
use Rattle.calendar.specs.One.{whole}
use Rattle.calendar.specs.Laws.{given_place, given_far}
use Rattle.calendar.proofs.record.given.Goals as goal

pub returns-in-Some : goal.returns-in-Some
unfolding whole
returns-in-Some c =
    let f : SFits w32 c.in-Some.jdn = search rules in
    rw (to_z-of_z c.ranges.year, to_z-of_z f) (given_place c.args.calendar c.args.p c.in-Some.ensures c.requires.1)

pub returns-in-None : goal.returns-in-None
returns-in-None c =
    rw (c.outside_32_bits.ensures, to_z-of_z c.ranges.year) (given_far c.args.calendar c.in-None.ensures)
