-- `explaining::sentences::say` meets its promise.
use native.Mathlib.Omega.{arith}
use Rattle.linetext.specs.Laws.{text_as}
use Rattle.explaining.specs.Laws.{cost_within}
use Rattle.explaining.proofs.sentences.say.Goals as goal

pub fill-requires : goal.fill-requires
fill-requires c = omega (arith, c.requires.0.room, cost_within c.args.pattern.now c.requires.0 c.requires.1)

pub returns : goal.returns
returns c = text_as c.fill.ensures (λ u p. p) (cost_within _ c.requires.0 c.requires.1)
