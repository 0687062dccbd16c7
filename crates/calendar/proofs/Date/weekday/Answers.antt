-- `calendar::Date::weekday` meets its promise.
use borrow.Author.Rules.{rules}
use mathlib.Core.Path.{◌≡◌, ◌∙◌, ap}
use mathlib.Core.Bool.{Bool, true, false}
use Rattle.calendar.specs.Calendars.{Genuine}
use Rattle.calendar.specs.Promise.{IsGenuine}
use Rattle.calendar.specs.declared.Date.{Date}
use mir.Syntax.{w32}
use mir.Val.{SFits}
use mir.Facts.{to_z-of_z}
use Rattle.days.specs.DayByDay as D
use Rattle.calendar.specs.Rows.{refuses, passes}
use Rattle.calendar.proofs.Date.weekday.Goals as goal
use Rattle.std.specs.Prelude.{Ok}

genuine : (d : Date) {r : Bool} → r ≡ true → IsGenuine d r → Genuine d
genuine d e h = rw e at h

made_up : (d : Date) {r : Bool} → r ≡ false → IsGenuine d r → ¬ Genuine d
made_up d e h = rw e at h

pub returns-then-is_genuine : goal.returns-then-is_genuine
returns-then-is_genuine c =
    let f : SFits w32 c.args.self.jdn = search rules in
    passes (genuine c.args.self c.if-is_genuine.true c.is_genuine.ensures) (ap Ok (c.for_jdn.ensures ∙ ap D.weekday (to_z-of_z f)))

pub returns : goal.returns
returns c = rw c.made_up.ensures (refuses (made_up c.args.self c.if-is_genuine.false c.is_genuine.ensures))
