-- `switches::find_later` meets its promise, way by way.
use Rattle.inner.specs.Laws.{raised_year_biased}
use Rattle.switches.specs.Laws.{new_found, gap_found, none_found}
use Rattle.switches.proofs.find_later.Goals as goal

pub returns-then-switch-t : goal.returns-then-switch-t
returns-then-switch-t c =
    new_found (raised_year_biased c.ranges.year.fits) c.is_gregorian_leap.ensures c.gregorian_start-start.ensures c.requires
    c.in-Some.ensures c.if-switch-t.true

pub returns-in-None : goal.returns-in-None
returns-in-None c =
    rw c.refusal_with.ensures (none_found (raised_year_biased c.ranges.year.fits) c.is_gregorian_leap.ensures c.gregorian_start-start.ensures c.requires
    c.in-None.ensures c.non_gregorian_refusal-number.ensures)

pub returns-else-switch-t : goal.returns-else-switch-t
returns-else-switch-t c =
    rw c.refusal_with-in-Some.ensures (gap_found (raised_year_biased c.ranges.year.fits) c.is_gregorian_leap.ensures c.gregorian_start-start.ensures c.requires
    c.in-Some.ensures c.if-switch-t.false)
