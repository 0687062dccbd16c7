-- `reasons::outside` meets its promise.
use mathlib.Core.Path.{◌∙◌, ap, ap₂}
use mathlib.Core.Bool.{not}
use Rattle.whole.specs.Promise.{is_negative_value}
use Rattle.reasons.specs.declared.Reason.TheVariants as Reason'
use mir.Facts.{to_z-of_z}
use borrow.Author.Rules.{sfits_of}
use mir.Syntax.{w32, w64}
use Rattle.reasons.proofs.outside.Goals as goal

pub returns : goal.returns
returns c =
    ap₂ Reason'.Outside (rw (to_z-of_z {w = w32} c.ranges.year) at c.outside_32_bits.ensures) (ap not (c.is_negative.ensures ∙ ap is_negative_value (to_z-of_z {w = w64} (sfits_of c.widened.type_inv) ∙ c.widened.ensures ∙ to_z-of_z {w = w32} c.ranges.year)))
