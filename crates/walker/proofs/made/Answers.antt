-- `walker::made` meets its promise.
use borrow.Author.Rules.{rules}
use mir.Facts.{to_z-of_z}
use Rattle.calendar.specs.Rows.{refuses, passes}
use Rattle.walker.specs.Promise.{made}
use mir.Syntax.{w32}
use Rattle.walker.proofs.made.Goals as goal

pub returns-then-not-is_genuine : goal.returns-then-not-is_genuine
returns-then-not-is_genuine c = rw c.refusal_of.ensures (refuses c.if-not-is_genuine.ensures)

pub returns : goal.returns
returns c = passes c.if-not-is_genuine.ensures (made (rw (to_z-of_z {w = w32} {z = c.args.date.jdn} (search rules)) at c.ended_when_made-ended.ensures))
