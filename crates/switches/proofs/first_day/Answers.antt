-- `switches::first_day` meets its promise.
use mathlib.Core.Path.{sym}
use Rattle.days.proofs.ClosedRuns.{first_julian, first_reform, first_gregorian}
use Rattle.switches.proofs.first_day.Goals as goal

pub returns-then-julian-switch : goal.returns-then-julian-switch
returns-then-julian-switch c = sym (first_julian _ _ c.args.gregorian c.if-julian-switch.true)

pub returns-then-gregorian-switch : goal.returns-then-gregorian-switch
returns-then-gregorian-switch c = sym (first_reform _ _ _ c.if-julian-switch.false c.if-gregorian-switch.true)

pub returns : goal.returns
returns c = sym (first_gregorian _ _ _ c.if-julian-switch.false c.if-gregorian-switch.false)
