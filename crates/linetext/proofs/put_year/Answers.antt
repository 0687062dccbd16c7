-- `linetext::put_year` meets its promise.
use mathlib.Core.Path.{sym, ◌∙◌, ap}
use native.Mathlib.Omega.{arith}
use lib.IntN.{nat_abs}
use mir.Facts.{to_z-of_z}
use Rattle.whole.specs.Promise.{is_negative_value}
use Rattle.linetext.specs.Laws.{text_as, whole_column}
use Rattle.linetext.proofs.put_year.Goals as goal
use Rattle.linetext.proofs.put_year.Goals.{After-magnitude-n}

pub returns-then-n-lt10000 : goal.returns-then-n-lt10000
returns-then-n-lt10000 c =
    let m = (goal.at.returns-then-n-lt10000 c).After-magnitude-n in
    let i = m.before.before in
    let a = i.before.before in
    let r = to_z-of_z a.ranges.x in
    whole_column (sym m.if-is_negative.false ∙ i.is_negative.ensures ∙ ap is_negative_value r) (m.magnitude-n.ensures ∙ ap nat_abs r) a.requires
    (text_as c.put_small-next.ensures (λ u p. p) (omega arith)) c.put_byte.ensures
