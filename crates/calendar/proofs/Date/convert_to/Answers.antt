-- `calendar::Date::convert_to` meets its promise.
use borrow.Author.Rules.{rules}
use mathlib.Core.Path.{◌≡◌}
use mathlib.Core.Bool.{Bool, true, false}
use Rattle.calendar.specs.Calendars.{Genuine}
use Rattle.calendar.specs.Promise.{IsGenuine}
use Rattle.calendar.specs.declared.Date.{Date}
use mir.Syntax.{w32}
use mir.Val.{SFits}
use mir.Facts.{to_z-of_z}
use Rattle.calendar.specs.Laws.{converts_row}
use Rattle.calendar.specs.Rows.{refuses}
use Rattle.calendar.proofs.Date.convert_to.Goals as goal

genuine : (d : Date) {r : Bool} → r ≡ true → IsGenuine d r → Genuine d
genuine d e h = rw e at h

made_up : (d : Date) {r : Bool} → r ≡ false → IsGenuine d r → ¬ Genuine d
made_up d e h = rw e at h

pub returns-then-is_genuine : goal.returns-then-is_genuine
returns-then-is_genuine c =
    let f : SFits w32 c.args.self.jdn = search rules in
    converts_row (genuine c.args.self c.if-is_genuine.true c.is_genuine.ensures) (rw (to_z-of_z f) at c.at_jdn.ensures)

pub returns : goal.returns
returns c = rw c.made_up.ensures (refuses (λ p. made_up c.args.self c.if-is_genuine.false c.is_genuine.ensures p.0))
