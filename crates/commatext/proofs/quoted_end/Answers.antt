-- `commatext::quoted_end` meets its promise.
use native.Mathlib.Omega.{arith}
use Rattle.commatext.specs.Laws.{before_end, ends_nothing, ends_quoted}
use Rattle.commatext.proofs.quoted_end.Goals as goal

pub returns-then-end-s : goal.returns-then-end-s
returns-then-end-s c = ends_nothing (omega (arith, c.requires.inside))

pub returns-then-s-end-eq34 : goal.returns-then-s-end-eq34
returns-then-s-end-eq34 c = ends_quoted c.requires c.run_end-end.ensures.along (before_end c.run_end-end.ensures.along.within c.if-end-s.false) c.if-s-end-eq34.true

pub returns : goal.returns
returns c = ends_nothing (omega (arith, c.requires.inside))
