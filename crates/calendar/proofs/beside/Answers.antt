-- `calendar::beside` meets its promise. The day that was found is looked for from the day of the record.
use borrow.Author.Rules.{rules}
use mathlib.Core.Path.{◌≡◌}
use mathlib.Core.Bool.{Bool, true, false}
use Rattle.calendar.specs.Calendars.{Genuine}
use Rattle.calendar.specs.Promise.{IsGenuine}
use Rattle.calendar.specs.declared.Date.{Date}
use mir.Syntax.{w32}
use mir.Val.{SFits}
use mir.Facts.{to_z-of_z}
use Rattle.calendar.specs.Laws.{next_row, nowhere_outside, day_there}
use Rattle.calendar.specs.Rows.{refuses, passes}
use Rattle.calendar.proofs.beside.Goals as goal

genuine : (d : Date) {r : Bool} → r ≡ true → IsGenuine d r → Genuine d
genuine d e h = rw e at h

made_up : (d : Date) {r : Bool} → r ≡ false → IsGenuine d r → ¬ Genuine d
made_up d e h = rw e at h

pub returns-in-None : goal.returns-in-None
returns-in-None c =
    let f : SFits w32 c.args.date.jdn = search rules in
    rw c.refusal_with.ensures (passes (genuine c.args.date c.if-is_genuine.true c.is_genuine.ensures) (refuses (nowhere_outside (rw (to_z-of_z f) at c.in-None.ensures))))

pub returns-in-Some : goal.returns-in-Some
returns-in-Some c =
    let f : SFits w32 c.args.date.jdn = search rules in
    let g : SFits w32 c.in-Some.jdn = search rules in
    let (i, e) = day_there (rw (to_z-of_z f) at c.in-Some.ensures) in
    next_row (genuine c.args.date c.if-is_genuine.true c.is_genuine.ensures) i (rw (to_z-of_z g, e) at c.at_jdn.ensures)

pub returns : goal.returns
returns c = rw c.made_up.ensures (refuses (made_up c.args.date c.if-is_genuine.false c.is_genuine.ensures))
