-- `explaining::sentences::put_outside` meets its promise.
use mathlib.Core.Path.{refl}
use Rattle.whole.specs.Text.{bytes}
use Rattle.explaining.specs.Patterns.{cost}
use lib.Dec.{lit≤}
use Rattle.reasons.specs.declared.Reason.TheVariants.{Outside}
use Rattle.explaining.specs.Wording.{outside_pattern}
use Rattle.explaining.specs.Laws.{says_alone}
use Rattle.explaining.proofs.sentences.put_outside.Goals as goal

pub say-requires : goal.say-requires
unfolding cost
say-requires c = (c.requires, lit≤ tt)

pub returns-then-above : goal.returns-then-above
unfolding outside_pattern bytes
returns-then-above c = says_alone (Outside _ _) refl (rw c.if-above.true c.say.ensures)

pub say-requires-2 : goal.say-requires-2
unfolding cost
say-requires-2 c = (c.requires, lit≤ tt)

pub returns : goal.returns
unfolding outside_pattern bytes
returns c = says_alone (Outside _ _) refl (rw c.if-above.false c.say-2.ensures)
