-- `explaining::sentences::put_off_year` meets its promise.
use mathlib.Core.Path.{refl, ◌∙◌}
use mir.Facts.{to_z-of_z}
use Rattle.explaining.specs.Laws.{numbers_as, says_alone, also, held}
use Rattle.whole.specs.Text.{bytes}
use Rattle.explaining.specs.Patterns.{cost}
use lib.Dec.{lit≤}
use Rattle.reasons.specs.declared.Reason.TheVariants.{OffYear}
use Rattle.explaining.specs.Wording.{off_year_pattern}
use mir.Syntax.{w32}
use Rattle.explaining.proofs.sentences.put_off_year.Goals as goal

pub say-requires : goal.say-requires
unfolding cost
say-requires c = (c.requires, lit≤ tt)

pub returns : goal.returns
unfolding off_year_pattern bytes
returns c = says_alone (OffYear _ _ _) refl (numbers_as (also (held c.widened.type_inv (c.widened.ensures ∙ to_z-of_z {w = w32} c.ranges.year)) (also (held c.counted.type_inv c.counted.ensures) refl)) c.say.ensures)
