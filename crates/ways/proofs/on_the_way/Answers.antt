-- `ways::on_the_way` meets its promise.
use mathlib.Core.Path.{◌≡◌, sym, ◌∙◌, ap, subst}
use mathlib.Core.Bool.{true}
use borrow.Author.Rules.{sfits_of}
use lib.IntN.{ℤ}
use mir.Facts.{to_z-of_z}
use mir.Syntax.{w32}
use mir.Val.{to_z, of_z}
use Rattle.ways.specs.Promise.{toward, EndedAt, made_up}
use Rattle.ways.specs.Laws.{way_gives, way_goes}
use Rattle.ways.proofs.on_the_way.Goals as goal
use Rattle.ways.proofs.on_the_way.Goals.{After-ahead-next}

-- the day ahead, as it is passed on
next : (c : After-ahead-next) → to_z w32 (of_z w32 c.ahead-next.result) ≡ toward c.args.kind c.args.jdn
next c = to_z-of_z {w = w32} (sfits_of c.ahead-next.type_inv) ∙ c.ahead-next.ensures ∙ ap (toward c.args.kind) (to_z-of_z {w = w32} c.ranges.jdn)

pub returns-then-ended : goal.returns-then-ended
returns-then-ended c = rw c.if-ended.true (made_up {e = true} (λ x. x c.requires))

pub returns-then-gives_held : goal.returns-then-gives_held
returns-then-gives_held c =
    let n = next (goal.at.returns-then-gives_held c).After-ahead-next in
    rw c.if-ended.false (way_gives c.args.kind c.args.jdn (sym c.gives_held.ensures ∙ c.if-gives_held.true) c.ranges.jdn c.requires (to_z-of_z {w = w32} c.ranges.jdn) n)

pub returns : goal.returns
returns c =
    let n = next (goal.at.returns c).After-ahead-next in
    let l = subst (λ (n : ℤ). EndedAt (toward c.args.kind n) c.is_last.result) n c.is_last.ensures in
    rw c.if-ended.false (way_goes c.args.kind c.args.jdn (sym c.gives_held.ensures ∙ c.if-gives_held.false) c.requires l n n)
