-- `ways::stays` meets its promise.
use mathlib.Core.Path.{◌∙◌}
use mathlib.Core.Bool.{true, false}
use native.Mathlib.Omega.{arith}
use lib.Dec.{eqb}
use mir.Facts.{to_z-of_z}
use Rattle.ways.specs.Laws.{last_up, last_down, stays_by}
use Rattle.ways.proofs.stays.Goals as goal

pub returns-then-later : goal.returns-then-later
returns-then-later c =
    let a = c in
    rw c.if-later.true (stays_by true a.args.day a.args.jdn (eqb c.raised.result 4_294_967_295) (omega arith) (last_up c.raised.result c.raised.type_inv (c.raised.ensures ∙ to_z-of_z a.ranges.jdn)))

pub returns-then-day-lt2 : goal.returns-then-day-lt2
returns-then-day-lt2 c = rw c.if-later.false (λ p. omega (arith, p.0, c.if-day-lt2.true))

pub returns : goal.returns
returns c =
    let a = c in
    rw c.if-later.false (stays_by false a.args.day a.args.jdn (eqb c.raised-2.result 0) c.if-day-lt2.false (last_down c.raised-2.result c.raised-2.type_inv (c.raised-2.ensures ∙ to_z-of_z a.ranges.jdn)))
