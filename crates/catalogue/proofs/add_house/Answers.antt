-- `catalogue::add_house` meets its promise.
use Rattle.catalogue.proofs.Laws.{house_taken, house_judged, house_added}
use mir.Facts.{to_z-of_z}
use mir.Syntax.{w32}
use mathlib.Core.Path.{◌∙◌, ap₂}
use Rattle.std.proofs.Common.{ℕ, ℤ, ◌+◌, arith}
use Rattle.refusals.specs.Promise.{refusal}
use Rattle.catalogue.proofs.add_house.Goals as goal

pub returns-then-is_taken : goal.returns-then-is_taken
returns-then-is_taken c = house_taken (rw c.if-is_taken.true at c.is_taken.ensures) c.refusal_at.ensures

pub returns-in-Err : goal.returns-in-Err
returns-in-Err c = house_judged (rw c.if-is_taken.false at c.is_taken.ensures) (omega arith) (to_z-of_z {w = w32} c.ranges.r) c.in-Err.ensures (c.refused_reformation.ensures ∙ ap₂ (λ (k : ℕ) (r : ℤ). refusal k (c.args.count + 1) r) c.number.ensures (to_z-of_z {w = w32} c.ranges.r))

pub returns : goal.returns
returns c = house_added (rw c.if-is_taken.false at c.is_taken.ensures) (omega arith) (to_z-of_z {w = w32} c.ranges.r) (to_z-of_z {w = w32} c.ranges.r) c.in_default.ensures c.requires.1 c.enter.ensures
