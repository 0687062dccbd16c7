-- `calendar::Date::is_genuine` meets its promise.
use borrow.Author.Rules.{rules}
use mir.Syntax.{w32}
use mir.Val.{SFits}
use mir.Facts.{to_z-of_z}
use Rattle.calendar.specs.Laws.{at_same_jdn, genuine_refused, genuine_compared}
use Rattle.calendar.proofs.Date.is_genuine.Goals as goal

pub returns-in-Err : goal.returns-in-Err
returns-in-Err c =
    let f : SFits w32 c.args.self.jdn = search rules in
    genuine_refused c.in-Err.is (at_same_jdn (to_z-of_z f) c.at_jdn.ensures)

pub returns-in-Ok : goal.returns-in-Ok
returns-in-Ok c =
    let f : SFits w32 c.args.self.jdn = search rules in
    genuine_compared c.args.self c.in-Ok.given c.same_fields.result
    (at_same_jdn (to_z-of_z f) c.in-Ok.ensures)
    (rw (c.fields_of.ensures, c.fields_of-in-Ok.ensures) at c.same_fields.ensures)
