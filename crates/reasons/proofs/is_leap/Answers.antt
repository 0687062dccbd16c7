-- `reasons::is_leap` meets its promise.
use mir.Facts.{to_z-of_z}
use mir.Syntax.{w32}
use Rattle.reasons.proofs.is_leap.Goals as goal

pub returns-in-Julian : goal.returns-in-Julian
returns-in-Julian c = rw c.in-Julian.is (rw (to_z-of_z {w = w32} c.ranges.year) at c.is_julian_leap_year-old.ensures)

pub returns-in-Gregorian : goal.returns-in-Gregorian
returns-in-Gregorian c = rw c.in-Gregorian.is (rw (to_z-of_z {w = w32} c.ranges.year) at c.is_gregorian_leap_year-new.ensures)

pub returns-in-Swedish : goal.returns-in-Swedish
returns-in-Swedish c = rw c.in-Swedish.is (rw (to_z-of_z {w = w32} c.ranges.year) at c.is_julian_leap_year-old.ensures)
