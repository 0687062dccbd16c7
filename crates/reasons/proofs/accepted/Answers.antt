-- `reasons::accepted` meets its promise.
use mathlib.Core.Path.{ap}
use mir.Facts.{to_z-of_z}
use mir.Syntax.{w32}
use borrow.Author.Rules.{rules}
use Rattle.reasons.specs.declared.Reason.TheVariants as Reason'
use Rattle.reasons.proofs.accepted.Goals as goal

pub returns : goal.returns
returns c = ap (Reason'.Accepted c.args.date) (rw (to_z-of_z {w = w32} {z = c.args.date.year} (search rules)) at c.is_leap.ensures)
