-- `switches::find` meets its promise, way by way.
use Rattle.switches.specs.Laws.{below_answered, later_none}
use Rattle.switches.proofs.find.Goals as goal

pub find_later-requires : goal.find_later-requires
find_later-requires c = later_none c.in-None.ensures

pub returns-in-Some : goal.returns-in-Some
returns-in-Some c = below_answered c.in-Some.ensures
