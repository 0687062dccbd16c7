-- `explaining::sentences::put_unknown` meets its promise.
use native.Mathlib.Omega.{arith}
use Rattle.whole.specs.Text.{bytes}
use Rattle.explaining.specs.Patterns.{cost}
use lib.Dec.{lit≤}
use Rattle.linetext.specs.Laws.{text_as}
use Rattle.explaining.specs.Wording.{unknown_pattern}
use Rattle.explaining.proofs.sentences.put_unknown.Goals as goal

pub say-requires : goal.say-requires
unfolding cost
say-requires c = (c.requires, lit≤ tt)

pub returns : goal.returns
unfolding unknown_pattern bytes
returns c = text_as c.say.ensures (λ u p. p) (omega arith)
