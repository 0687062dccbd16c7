-- `importing::import_text` meets its promise. The loop's invariant is `Reaches`; the measure is what is left of the text.
use Prim.Native.Nat.{◌-◌}
use lib.ListN.{length}
use Rattle.catalogue.specs.Promise.{NamesIn}
use Rattle.importing.specs.Promise.{import_state}
use Rattle.importing.specs.Laws.{Reaches}
use Rattle.importing.proofs.import_text.Given as goal

abbrev pub invariant-loop-at : goal.invariant-loop-at
invariant-loop-at l = Reaches (NamesIn l.names) l.ends l.offset l.text (import_state l.from l.initial.line l.initial.out l.used) (import_state l.at l.line l.out l.end)

abbrev pub decreases-loop-at : goal.decreases-loop-at
decreases-loop-at l = length l.text - l.at
