-- `ways::ahead` meets its promise.
use mathlib.Core.Path.{◌≡◌, sym, ◌∙◌}
use Prim.Native.Nat.{◌≤◌, ◌^◌}
use borrow.Author.Rules.{sfits_of}
use lib.IntN.{suc_ℤ, pred_ℤ}
use mir.Syntax.{w32}
use mir.Facts.{to_z-of_z}
use Rattle.whole.specs.Promise.{unbias}
use Rattle.days.proofs.ClosedEnds.{suc_is, pred_is}
use Rattle.ways.specs.Promise.{toward}
use Rattle.ways.specs.Laws.{toward_later, toward_earlier, room_up, room_down}
use Rattle.ways.proofs.ahead.Goals as goal
use Rattle.ways.proofs.ahead.Goals.{After-raised, After-raised-2, Else-goes_later, Then-goes_later}

later : (c : Then-goes_later) → toward c.args.kind c.args.jdn ≡ suc_ℤ c.args.jdn
later c = toward_later c.args.kind c.args.jdn (sym c.goes_later.ensures ∙ c.if-goes_later.true)

earlier : (c : Else-goes_later) → toward c.args.kind c.args.jdn ≡ pred_ℤ c.args.jdn
earlier c = toward_earlier c.args.kind c.args.jdn (sym c.goes_later.ensures ∙ c.if-goes_later.false)

-- the raised day is that of the walker
from : (c : After-raised) → unbias (2 ^ 31) c.raised.result ≡ c.args.jdn
from c = c.raised.ensures ∙ to_z-of_z c.ranges.jdn

from_2 : (c : After-raised-2) → unbias (2 ^ 31) c.raised-2.result ≡ c.args.jdn
from_2 c = c.raised-2.ensures ∙ to_z-of_z c.ranges.jdn

above_none : (c : After-raised-2) → 1 ≤ c.raised-2.result
above_none c = room_down c.raised-2.result (from_2 c) (rw (earlier c.before) at c.requires)

pub overflow_add-raised : goal.overflow_add-raised
overflow_add-raised c = record { fits = room_up c.raised.result (from c) c.raised.type_inv (rw (later (goal.at.overflow_add-raised c).Then-goes_later) at c.requires) }

pub returns-then-goes_later : goal.returns-then-goes_later
returns-then-goes_later c = to_z-of_z {w = w32} (sfits_of c.lowered.type_inv) ∙ c.lowered.ensures ∙ suc_is c.raised.result (from (goal.at.returns-then-goes_later c).After-raised) ∙ sym (later (goal.at.returns-then-goes_later c).Then-goes_later)

pub overflow_sub-raised : goal.overflow_sub-raised
overflow_sub-raised c = above_none c

pub returns : goal.returns
returns c =
    let a = (goal.at.returns c).After-raised-2 in
    to_z-of_z {w = w32} (sfits_of c.lowered-2.type_inv) ∙ c.lowered-2.ensures ∙ pred_is a.raised-2.result (above_none a) (from_2 a) ∙ sym (earlier a.before)
