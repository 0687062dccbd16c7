-- `inner::ordinal_number` meets its promise.
use native.Mathlib.Omega.{arith}
use Rattle.inner.specs.Natural.{off_year, on_year}
use Rattle.inner.proofs.ordinal_number.Goals as goal

pub returns-then-ordinal-lt1 : goal.returns-then-ordinal-lt1
returns-then-ordinal-lt1 c = off_year (λ p. omega (arith, p.0))

pub returns-then-days_in_year-ordinal : goal.returns-then-days_in_year-ordinal
returns-then-days_in_year-ordinal c = off_year (λ p. omega (arith, p.1, c.days_in_year.ensures))

pub returns : goal.returns
returns c = rw c.ok_or.ensures.value (on_year c.if-ordinal-lt1.false (omega (arith, c.if-days_in_year-ordinal.false, c.days_in_year.ensures)) c.day_number.ensures)
