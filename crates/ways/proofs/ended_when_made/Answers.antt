-- `ways::ended_when_made` meets its promise.
use mathlib.Core.Path.{sym, ◌∙◌}
use mir.Facts.{to_z-of_z}
use Rattle.ways.specs.Laws.{gives_held, gives_ahead}
use Rattle.ways.proofs.ended_when_made.Goals as goal
use Rattle.ways.proofs.ended_when_made.Goals.{After-gives_held}

pub returns-then-gives_held : goal.returns-then-gives_held
returns-then-gives_held c =
    let a = (goal.at.returns-then-gives_held c).After-gives_held in
    rw (gives_held a.args.kind a.args.jdn (sym a.gives_held.ensures ∙ c.if-gives_held.true)) a.ranges.jdn

pub returns : goal.returns
returns c =
    let a = (goal.at.returns c).After-gives_held in
    rw (gives_ahead a.args.kind a.args.jdn (sym a.gives_held.ensures ∙ c.if-gives_held.false)) (rw (to_z-of_z a.ranges.jdn) at c.is_last.ensures)
