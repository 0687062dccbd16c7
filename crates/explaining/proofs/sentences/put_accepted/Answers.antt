-- `explaining::sentences::put_accepted` meets its promise.
use mathlib.Core.Path.{refl, ◌∙◌}
use borrow.Author.Rules.{rules}
use mir.Facts.{to_z-of_z}
use Rattle.explaining.specs.Laws.{numbers_as, says_alone, also, held}
use Rattle.reasons.specs.declared.Reason.TheVariants.{Accepted}
use mir.Syntax.{w32}
use Rattle.explaining.proofs.sentences.put_accepted.Goals as goal

pub returns : goal.returns
returns c = says_alone (Accepted _ _) refl (numbers_as (also (held c.widened-year.type_inv (c.widened-year.ensures ∙ to_z-of_z {w = w32} {z = c.args.date.year} (search rules))) (also (held c.counted-month.type_inv c.counted-month.ensures) (also (held c.counted-day.type_inv c.counted-day.ensures) (also (held c.widened-jdn.type_inv (c.widened-jdn.ensures ∙ to_z-of_z {w = w32} {z = c.args.date.jdn} (search rules))) (also (held c.widened-year.type_inv (c.widened-year.ensures ∙ to_z-of_z {w = w32} {z = c.args.date.year} (search rules))) refl))))) (rw c.accepted_words.ensures.0 at c.say.ensures))
