-- `switches::year_in` meets its promise.
use Rattle.switches.specs.Laws.{year_old, year_new}
use Rattle.switches.proofs.year_in.Goals as goal

pub returns-then-old-switch : goal.returns-then-old-switch
returns-then-old-switch c = year_old c.julian_start-old.ensures c.is_julian_leap.ensures c.if-old-switch.true

pub returns : goal.returns
returns c = year_new c.julian_start-old.ensures c.gregorian_start-new.ensures c.is_gregorian_leap.ensures c.if-old-switch.false
