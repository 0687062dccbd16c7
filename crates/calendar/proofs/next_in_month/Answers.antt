-- `calendar::next_in_month` meets its promise, later and earlier.
use borrow.Author.Rules.{rules}
use mathlib.Core.Path.{◌≡◌}
use mathlib.Core.Bool.{Bool, true, false}
use Prim.Native.Nat.{ℕ}
use lib.IntN.{ℤ}
use mir.Syntax.{w32}
use mir.Val.{SFits, to_z, of_z}
use mir.Facts.{to_z-of_z}
use Rattle.days.specs.DayByDay.{Is32Bit}
use Rattle.ways.specs.Promise.{beside, Inside, IsStaying}
use Rattle.calendar.specs.One.{whole}
use Rattle.calendar.specs.declared.Date.{Date}
use Rattle.calendar.specs.InMonth.{Usual, IsUsual, usual_movable, near_found, not_staying, not_usual}
use Rattle.calendar.proofs.next_in_month.Goals as goal

staying : (b : Bool) (d : ℕ) {n : ℤ} {r : Bool} → SFits w32 n → r ≡ true → IsStaying b d (to_z w32 (of_z w32 n)) r → Inside b d × Is32Bit (beside b n)
staying b d f e h = rw (to_z-of_z f, e) at h

-- the fields of the date came one by one, and made it up again
usual_told : (d : Date) (r : Bool) → SFits w32 d.year → SFits w32 d.jdn
    → IsUsual (whole d.calendar (to_z w32 (of_z w32 d.year)) d.ordinal d.month d.day d.day_ordinal (to_z w32 (of_z w32 d.jdn)) d.style) r → IsUsual d r
unfolding whole
usual_told d r f g h = rw (to_z-of_z {z = d.year} f, to_z-of_z {z = d.jdn} g) at h

usual : (d : Date) {r : Bool} → r ≡ true → IsUsual d r → Usual d
usual d e h = rw e at h

pub moved-requires : goal.moved-requires
moved-requires c =
    let f : SFits w32 c.args.date.jdn = search rules in
    let y : SFits w32 c.args.date.year = search rules in
    let (i, g) = staying true c.args.date.day f c.if-stays.true c.stays.ensures in
    usual_movable true (usual c.args.date c.if-is_usual.true (usual_told c.args.date _ y f c.is_usual.ensures)) i g

pub returns-then-is_usual : goal.returns-then-is_usual
returns-then-is_usual c =
    let f : SFits w32 c.args.date.jdn = search rules in
    let y : SFits w32 c.args.date.year = search rules in
    let (i, g) = staying true c.args.date.day f c.if-stays.true c.stays.ensures in
    rw c.if-later.true (near_found true (usual c.args.date c.if-is_usual.true (usual_told c.args.date _ y f c.is_usual.ensures)) f i g c.moved.ensures)

pub returns-else-is_usual : goal.returns-else-is_usual
returns-else-is_usual c =
    let f : SFits w32 c.args.date.jdn = search rules in
    let y : SFits w32 c.args.date.year = search rules in
    rw c.if-later.true (not_usual true (rw c.if-is_usual.false at (usual_told c.args.date _ y f c.is_usual.ensures)))

pub returns-else-stays : goal.returns-else-stays
returns-else-stays c =
    let f : SFits w32 c.args.date.jdn = search rules in
    rw c.if-later.true (not_staying true (rw (to_z-of_z f, c.if-stays.false) at c.stays.ensures))

pub moved-requires-then-is_usual-2 : goal.moved-requires-then-is_usual-2
moved-requires-then-is_usual-2 c =
    let f : SFits w32 c.args.date.jdn = search rules in
    let y : SFits w32 c.args.date.year = search rules in
    let (i, g) = staying false c.args.date.day f c.if-stays-2.true c.stays-2.ensures in
    usual_movable false (usual c.args.date c.if-is_usual-2.true (usual_told c.args.date _ y f c.is_usual-then-stays-2.ensures)) i g

pub returns-then-is_usual-2 : goal.returns-then-is_usual-2
returns-then-is_usual-2 c =
    let f : SFits w32 c.args.date.jdn = search rules in
    let y : SFits w32 c.args.date.year = search rules in
    let (i, g) = staying false c.args.date.day f c.if-stays-2.true c.stays-2.ensures in
    rw c.if-later.false (near_found false (usual c.args.date c.if-is_usual-2.true (usual_told c.args.date _ y f c.is_usual-then-stays-2.ensures)) f i g c.moved-then-is_usual-2.ensures)

pub returns-else-is_usual-2 : goal.returns-else-is_usual-2
returns-else-is_usual-2 c =
    let f : SFits w32 c.args.date.jdn = search rules in
    let y : SFits w32 c.args.date.year = search rules in
    rw c.if-later.false (not_usual false (rw c.if-is_usual-2.false at (usual_told c.args.date _ y f c.is_usual-then-stays-2.ensures)))

pub returns-else-stays-2 : goal.returns-else-stays-2
returns-else-stays-2 c =
    let f : SFits w32 c.args.date.jdn = search rules in
    rw c.if-later.false (not_staying false (rw (to_z-of_z f, c.if-stays-2.false) at c.stays-2.ensures))
