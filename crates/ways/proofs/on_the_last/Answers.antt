-- `ways::on_the_last` meets its promise.
use mathlib.Core.Path.{sym, ◌∙◌, ap}
use mathlib.Core.Bool.{not}
use mir.Syntax.{w32}
use mir.Facts.{to_z-of_z}
use Rattle.ways.specs.Promise.{ended}
use Rattle.ways.specs.Laws.{last_made_up, last_gives}
use Rattle.ways.proofs.on_the_last.Goals as goal

pub returns-then-ended : goal.returns-then-ended
returns-then-ended c = rw c.if-ended.true (ended c.requires)

pub returns-then-not-gives_held : goal.returns-then-not-gives_held
returns-then-not-gives_held c =
    rw c.if-ended.false (last_made_up c.args.kind c.args.jdn (ap not (sym c.gives_held.ensures ∙ c.if-not-gives_held.true)) c.requires)

pub returns : goal.returns
returns c =
    rw (c.if-ended.false, to_z-of_z {w = w32} c.ranges.jdn) (last_gives c.args.kind c.args.jdn (ap not (sym c.gives_held.ensures ∙ c.if-not-gives_held.false)) c.ranges.jdn c.requires)
