-- `calendar::moved` meets its promise.
use borrow.Author.Rules.{rules}
use mathlib.Core.Path.{refl, ◌∙◌, ap}
use Prim.Native.Nat.{◌^◌}
use mir.Syntax.{w32}
use mir.Val.{SFits}
use mir.Facts.{to_z-of_z}
use Rattle.whole.specs.Promise.{unbias}
use Rattle.calendar.specs.InMonth.{beside_room, beside_is}
use Rattle.calendar.proofs.moved.Goals as goal

pub one_on-requires-4 : goal.one_on-requires-4
one_on-requires-4 c =
    let f : SFits w32 c.args.date.jdn = search rules in
    beside_room c.args.later c.raised.result (c.raised.ensures ∙ to_z-of_z f) c.raised.type_inv c.requires.3

pub returns : goal.returns
returns c =
    let f : SFits w32 c.args.date.jdn = search rules in
    let y : SFits w32 c.args.date.year = search rules in
    let g : SFits w32 c.lowered.result = record { sfits = c.lowered.type_inv } in
    rw (
      to_z-of_z y,
      c.one_on.ensures,
      c.one_on-2.ensures,
      c.one_on-3.ensures,
      to_z-of_z g,
      c.lowered.ensures ∙ ap (unbias (2 ^ 31)) c.one_on-4.ensures ∙ beside_is c.args.later c.raised.result (c.raised.ensures ∙ to_z-of_z f) (beside_room c.args.later c.raised.result (c.raised.ensures ∙ to_z-of_z f) c.raised.type_inv c.requires.3),
    ) refl
