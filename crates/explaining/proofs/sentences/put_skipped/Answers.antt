-- `explaining::sentences::put_skipped` meets its promise.
use mathlib.Core.Path.{refl, ◌∙◌}
use borrow.Author.Rules.{rules}
use mir.Facts.{to_z-of_z}
use Rattle.explaining.specs.Laws.{numbers_as, says_alone, also, held}
use Rattle.whole.specs.Text.{bytes}
use Rattle.explaining.specs.Patterns.{cost}
use lib.Dec.{lit≤}
use Rattle.reasons.specs.declared.Reason.TheVariants.{Skipped}
use Rattle.explaining.specs.Wording.{skipped_pattern}
use mir.Syntax.{w32}
use Rattle.explaining.proofs.sentences.put_skipped.Goals as goal

pub say-requires : goal.say-requires
unfolding cost
say-requires c = (c.requires, lit≤ tt)

pub returns : goal.returns
unfolding skipped_pattern bytes
returns c = says_alone (Skipped _ _ _) refl (numbers_as (also (held c.widened.type_inv (c.widened.ensures ∙ to_z-of_z {w = w32} {z = c.args.before.year} (search rules))) (also (held c.counted.type_inv c.counted.ensures) (also (held c.counted-2.type_inv c.counted-2.ensures) (also (held c.widened-2.type_inv (c.widened-2.ensures ∙ to_z-of_z {w = w32} {z = c.args.before.jdn} (search rules))) (also (held c.widened-3.type_inv (c.widened-3.ensures ∙ to_z-of_z {w = w32} {z = c.args.after.year} (search rules))) (also (held c.counted-3.type_inv c.counted-3.ensures) (also (held c.counted-4.type_inv c.counted-4.ensures) (also (held c.widened-4.type_inv (c.widened-4.ensures ∙ to_z-of_z {w = w32} {z = c.args.after.jdn} (search rules))) refl)))))))) c.say.ensures)
