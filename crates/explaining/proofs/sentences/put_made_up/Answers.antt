-- `explaining::sentences::put_made_up` meets its promise.
use mathlib.Core.Path.{refl}
use Rattle.whole.specs.Text.{bytes}
use Rattle.explaining.specs.Patterns.{cost}
use lib.Dec.{lit≤}
use Rattle.reasons.specs.declared.Reason.TheVariants.{MadeUp}
use Rattle.explaining.specs.Wording.{made_up_pattern}
use Rattle.explaining.specs.Laws.{says_alone}
use Rattle.explaining.proofs.sentences.put_made_up.Goals as goal

pub say-requires : goal.say-requires
unfolding cost
say-requires c = (c.requires, lit≤ tt)

pub returns : goal.returns
unfolding made_up_pattern bytes
returns c = says_alone MadeUp refl c.say.ensures
