-- `walker::any_step` meets its promise.
use borrow.Author.Rules.{rules}
use mir.Facts.{to_z-of_z}
use mir.Syntax.{w32}
use Rattle.std.specs.Prelude.{refl}
use Rattle.ways.specs.Promise.{NextStep}
use Rattle.walker.specs.Laws.{date_made_up, flag_made_up, step_ended, step_gives}
use Rattle.walker.proofs.any_step.Goals as goal
use Rattle.walker.proofs.any_step.Goals.{After-next_step}

-- the step, of the day that the walker holds
told : (c : After-next_step) → NextStep c.args.walker.kind c.args.walker.date.jdn c.args.walker.ended c.next_step.result
told c = rw (to_z-of_z {w = w32} {z = c.args.walker.date.jdn} (search rules)) at c.next_step.ensures

pub returns : goal.returns
returns c = rw c.refused-2.ensures (date_made_up c.args.walker c.if-is_genuine.ensures)

pub returns-in-Err-MadeUp : goal.returns-in-Err-MadeUp
returns-in-Err-MadeUp c =
    let s = told (goal.at.returns-in-Err-MadeUp c).After-next_step in
    rw c.refused.ensures (flag_made_up c.args.walker refl (rw (c.in-Err-MadeUp.is, c.in-Err-MadeUp.field-0-is) at s))

pub returns-in-Err-Ended : goal.returns-in-Err-Ended
returns-in-Err-Ended c =
    let s = told (goal.at.returns-in-Err-Ended c).After-next_step in
    rw c.refused-in-Err-Ended.ensures (step_ended c.args.walker c.if-is_genuine.ensures refl (rw (c.in-Err-Ended.is, c.in-Err-Ended.field-0-is) at s))

pub returns-in-Ok : goal.returns-in-Ok
returns-in-Ok c =
    let s = told (goal.at.returns-in-Ok c).After-next_step in
    step_gives c.args.walker c.if-is_genuine.ensures refl (rw c.in-Ok.is at s) c.gave.ensures
