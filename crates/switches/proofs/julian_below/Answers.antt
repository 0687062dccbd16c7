-- `switches::julian_below` meets its promise.
use Rattle.inner.specs.Laws.{raised_year_biased}
use Rattle.switches.specs.Laws.{below_year, below_found, below_late, below_not}
use Rattle.switches.proofs.julian_below.Goals as goal

pub returns-then-switch-start : goal.returns-then-switch-start
returns-then-switch-start c = below_year c.julian_start-start.ensures c.if-switch-start.true

pub returns-then-s-switch : goal.returns-then-s-switch
returns-then-s-switch c =
    below_found (raised_year_biased c.ranges.year.fits) c.is_julian_leap.ensures c.julian_start-start.ensures
    c.in-Some.ensures c.if-s-switch.true

pub returns-in-None : goal.returns-in-None
returns-in-None c =
    rw c.refusal_with.ensures (below_not (raised_year_biased c.ranges.year.fits) c.is_julian_leap.ensures c.julian_start-start.ensures
    c.in-None.ensures)

pub returns-else-s-switch : goal.returns-else-s-switch
returns-else-s-switch c =
    below_late (raised_year_biased c.ranges.year.fits) c.is_julian_leap.ensures c.julian_start-start.ensures
    c.in-Some.ensures c.if-s-switch.false
