-- `months::day_in` meets its promise.
use mathlib.Core.Path.{sym}
use native.Mathlib.Omega.{arith}
use borrow.Author.Tests.{lt-ltb, le-ltb}
use Rattle.months.proofs.day_in.Goals as goal

pub overflow_sub-result : goal.overflow_sub-result
overflow_sub-result c = omega (arith, c.requires.from)

pub overflow_cast-result : goal.overflow_cast-result
overflow_cast-result c = record { fits = c.requires.few }

pub returns-then-biased-s : goal.returns-then-biased-s
returns-then-biased-s c = sym (simp (lt-ltb _ _ c.if-biased-s.true))

pub overflow_sub-result-2 : goal.overflow_sub-result-2
overflow_sub-result-2 c = omega (arith, c.requires.new c.if-biased-s.false)

pub overflow_cast-result-2 : goal.overflow_cast-result-2
overflow_cast-result-2 c = record { fits = omega (arith, c.requires.new c.if-biased-s.false) }

pub returns : goal.returns
returns c = sym (simp (le-ltb _ _ c.if-biased-s.false))
