-- `calendar::one_on` meets its promise.
use mathlib.Core.Path.{refl}
use Rattle.calendar.proofs.one_on.Goals as goal

pub overflow_add-result : goal.overflow_add-result
overflow_add-result c = record { fits = rw c.if-later.true at c.requires }

pub returns-then-later : goal.returns-then-later
returns-then-later c = rw c.if-later.true refl

pub overflow_sub-result : goal.overflow_sub-result
overflow_sub-result c = rw c.if-later.false at c.requires

pub returns : goal.returns
returns c = rw c.if-later.false refl
