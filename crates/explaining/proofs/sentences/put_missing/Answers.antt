-- `explaining::sentences::put_missing` meets its promise.
use mathlib.Core.Path.{refl, ◌∙◌}
use mir.Facts.{to_z-of_z}
use Rattle.explaining.specs.Laws.{numbers_as, says_alone, also, held}
use Rattle.whole.specs.Text.{bytes}
use Rattle.explaining.specs.Patterns.{cost}
use lib.Dec.{lit≤}
use Rattle.reasons.specs.declared.Reason.TheVariants.{Missing}
use Rattle.explaining.specs.Wording.{missing_pattern}
use mir.Syntax.{w32}
use Rattle.explaining.proofs.sentences.put_missing.Goals as goal

pub say-requires : goal.say-requires
unfolding cost
say-requires c = (c.requires, lit≤ tt)

pub say-requires-in-One : goal.say-requires-in-One
unfolding cost
say-requires-in-One c = (c.requires, lit≤ tt)

pub say-requires-in-Two : goal.say-requires-in-Two
unfolding cost
say-requires-in-Two c = (c.requires, lit≤ tt)

pub returns-in-Nothing : goal.returns-in-Nothing
unfolding missing_pattern bytes
returns-in-Nothing c = says_alone (Missing _ _ _ _) refl (rw c.in-Nothing.is (numbers_as (also (held c.widened-y.type_inv (c.widened-y.ensures ∙ to_z-of_z {w = w32} c.ranges.year)) (also (held c.counted-m.type_inv c.counted-m.ensures) refl)) c.say.ensures))

pub returns-in-One : goal.returns-in-One
unfolding missing_pattern bytes
returns-in-One c = says_alone (Missing _ _ _ _) refl (rw c.in-One.is (numbers_as (also (held c.widened-y.type_inv (c.widened-y.ensures ∙ to_z-of_z {w = w32} c.ranges.year)) (also (held c.counted-m.type_inv c.counted-m.ensures) (also (held c.counted.type_inv c.counted.ensures) (also (held c.counted-in-One.type_inv c.counted-in-One.ensures) refl)))) c.say-in-One.ensures))

pub returns-in-Two : goal.returns-in-Two
unfolding missing_pattern bytes
returns-in-Two c = says_alone (Missing _ _ _ _) refl (rw c.in-Two.is (numbers_as (also (held c.widened-y.type_inv (c.widened-y.ensures ∙ to_z-of_z {w = w32} c.ranges.year)) (also (held c.counted-m.type_inv c.counted-m.ensures) (also (held c.counted-in-Two.type_inv c.counted-in-Two.ensures) (also (held c.counted-in-Two-2.type_inv c.counted-in-Two-2.ensures) (also (held c.counted-in-Two-3.type_inv c.counted-in-Two-3.ensures) (also (held c.counted-in-Two-4.type_inv c.counted-in-Two-4.ensures) refl)))))) c.say-in-Two.ensures))
