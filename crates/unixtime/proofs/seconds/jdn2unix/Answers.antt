-- `unixtime::seconds::jdn2unix` meets its promise.
use mathlib.Core.Path.{◌∙◌}
use borrow.Author.Rules.{sfits_of}
use mir.Facts.{to_z-of_z}
use Rattle.unixtime.specs.Laws.{day_begins}
use mir.Syntax.{w32, w64}
use Rattle.unixtime.proofs.seconds.jdn2unix.Goals as goal
use Rattle.unixtime.proofs.seconds.jdn2unix.Goals.{After-raised}

pub returns : goal.returns
returns c =
    let a = (goal.at.returns c).After-raised in
    rw (to_z-of_z {w = w64} (sfits_of c.lowered64.type_inv), c.lowered64.ensures) (day_begins a.raised.result (a.raised.ensures ∙ to_z-of_z {w = w32} a.ranges.jdn))
