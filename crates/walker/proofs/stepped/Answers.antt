-- `walker::stepped` meets its promise.
use mathlib.Core.Path.{sym, ◌∙◌, subst}
use lib.IntN.{ℤ}
use borrow.Author.Rules.{rules}
use mir.Facts.{to_z-of_z}
use mir.Syntax.{w32}
use Rattle.std.specs.Prelude.{Some}
use Rattle.calendar.specs.InMonth.{NextInMonth}
use Rattle.ways.specs.Promise.{goes_later_value, toward, EndedAt}
use Rattle.walker.specs.Laws.{gives_first, gives_next}
use Rattle.walker.proofs.stepped.Goals as goal
use Rattle.walker.proofs.stepped.Goals.{After-gives_held}

near : (c : After-gives_held) → NextInMonth (goes_later_value c.args.walker.kind) c.args.walker.date (Some c.in-Some.next)
near c = rw (c.in-Some.is, c.goes_later.ensures) at c.next_in_month.ensures

pub returns-then-gives_held : goal.returns-then-gives_held
returns-then-gives_held c =
    let h = (goal.at.returns-then-gives_held c).After-gives_held in
    gives_first h.args.walker h.if-not-ended.true (sym c.gives_held.ensures ∙ c.if-gives_held.true) (near h)

pub returns-in-Some : goal.returns-in-Some
returns-in-Some c =
    let h = (goal.at.returns-in-Some c).After-gives_held in
    gives_next h.args.walker h.if-not-ended.true (sym h.gives_held.ensures ∙ c.if-gives_held.false)
    (subst (λ (n : ℤ). EndedAt (toward h.args.walker.kind n) c.is_last.result) (to_z-of_z {w = w32} {z = c.in-Some.next.jdn} (search rules)) c.is_last.ensures) (near h)
