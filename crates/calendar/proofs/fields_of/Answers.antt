-- `calendar::fields_of` meets its promise: field by field, the style as its number.
use mathlib.Core.Path.{refl}
use borrow.Author.Rules.{rules}
use mir.Syntax.{w32}
use mir.Val.{SFits}
use mir.Facts.{to_z-of_z}
use Rattle.calendar.proofs.fields_of.Goals as goal

pub returns : goal.returns
returns c =
    let f : SFits w32 c.args.date.year = search rules in
    rw (c.style_number.ensures, to_z-of_z f) refl
