-- `benchsum::fields` meets its promise.
use borrow.Author.Rules.{rules}
use mathlib.Core.Path.{◌∙◌}
use mir.Syntax.{w32}
use mir.Facts.{to_z-of_z}
use Rattle.benchsum.specs.Promise.{IsFields}
use Rattle.benchsum.proofs.fields.Goals as goal

pub returns : goal.returns
returns c =
    rw c.style_bit.ensures
    (IsFields.is_fields c.raised.result c.raised-2.result
    (c.raised.ensures ∙ to_z-of_z {w = w32} {z = c.args.d.jdn} (search rules))
    (c.raised-2.ensures ∙ to_z-of_z {w = w32} {z = c.args.d.year} (search rules)))
