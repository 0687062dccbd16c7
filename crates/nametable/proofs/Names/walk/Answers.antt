-- `nametable::Names::walk` meets its promise.
use Rattle.std.proofs.Common.{◌∙◌, to_z-of_z}
use borrow.Author.Rules.{sfits_of}
use Rattle.nametable.specs.Laws.{walking_ended, walking_here, walking_astray, walking_on}
use mir.Syntax.{w32}
use Rattle.nametable.proofs.Names.walk.Goals as goal

pub returns-then-stands : goal.returns-then-stands
returns-then-stands c = walking_here c.loop-at.invariant c.loop-at-test.true (rw c.if-stands.true at c.stands.ensures) (to_z-of_z {w = w32} (sfits_of c.lowered.type_inv) ∙ c.lowered.ensures)

pub returns-then-at-next : goal.returns-then-at-next
returns-then-at-next c = walking_astray c.loop-at.invariant c.loop-at-test.true (rw c.if-stands.false at c.stands.ensures) c.place-next.ensures c.if-at-next.true

pub loop-at-preserved : goal.loop-at-preserved
loop-at-preserved c = walking_on c.loop-at.invariant c.loop-at-test.true (rw c.if-stands.false at c.stands.ensures) c.place-next.ensures c.if-at-next.false

pub returns : goal.returns
returns c = walking_ended c.loop-at.invariant c.loop-at-test.false
