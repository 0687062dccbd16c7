-- `writer::decimals::width` meets its promise. The loop's invariant is `Counting`: what is still to be counted comes to the whole with what was. The measure is the rest.
use mathlib.Core.Path.{refl}
use Prim.Native.Nat.{ℕ, ◌≤◌, ◌<◌, ◌^◌}
use native.Mathlib.Omega.{arith}
use Rattle.writer.specs.Laws.{counting_step, counted}
use Rattle.writer.proofs.decimals.width.Goals as goal

pub loop-rest-preserved : goal.loop-rest-preserved
loop-rest-preserved c = counting_step c.loop-rest.invariant c.loop-rest-test.true

pub returns-then-rest-lt10 : goal.returns-then-rest-lt10
returns-then-rest-lt10 c = counted c.loop-rest.invariant c.ranges.n.fits 0 c.if-rest-lt10.true (λ h. absurd (none h)) _ refl
  where
    none : 1 ≤ 0 → ⊥
    none h = omega arith

pub returns-then-rest-lt100 : goal.returns-then-rest-lt100
returns-then-rest-lt100 c = counted c.loop-rest.invariant c.ranges.n.fits 1 c.if-rest-lt100.true (λ h. c.if-rest-lt10.false) _ refl

pub returns-then-rest-lt1000 : goal.returns-then-rest-lt1000
returns-then-rest-lt1000 c = counted c.loop-rest.invariant c.ranges.n.fits 2 c.if-rest-lt1000.true (λ h. c.if-rest-lt100.false) _ refl

pub returns : goal.returns
returns c = counted c.loop-rest.invariant c.ranges.n.fits 3 (below c.loop-rest-test.false) (λ h. c.if-rest-lt1000.false) _ refl
  where
    below : {r : ℕ} → r < 10000 → r < 10 ^ 4
    below h = omega arith
