-- `ways::is_last` meets its promise.
use mathlib.Core.Path.{sym, ◌∙◌}
use mir.Facts.{to_z-of_z}
use Rattle.ways.specs.Laws.{toward_later, toward_earlier, last_up, last_down}
use Rattle.ways.proofs.is_last.Goals as goal
use Rattle.ways.proofs.is_last.Goals.{After-goes_later}

pub returns-then-goes_later : goal.returns-then-goes_later
returns-then-goes_later c =
    let a = (goal.at.returns-then-goes_later c).After-goes_later in
    rw (toward_later a.args.kind a.args.jdn (sym a.goes_later.ensures ∙ c.if-goes_later.true))
    (last_up c.raised.result c.raised.type_inv (c.raised.ensures ∙ to_z-of_z a.ranges.jdn))

pub returns : goal.returns
returns c =
    let a = (goal.at.returns c).After-goes_later in
    rw (toward_earlier a.args.kind a.args.jdn (sym a.goes_later.ensures ∙ c.if-goes_later.false))
    (last_down c.raised-2.result c.raised-2.type_inv (c.raised-2.ensures ∙ to_z-of_z a.ranges.jdn))
