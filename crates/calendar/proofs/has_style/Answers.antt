-- `calendar::has_style` meets its promise: two styles are the same whose numbers are.
use mathlib.Core.Path.{refl}
use Rattle.calendar.specs.Rows.{refuses, passes}
use Rattle.calendar.proofs.has_style.Goals as goal

pub returns-then-is_genuine : goal.returns-then-is_genuine
returns-then-is_genuine c = rw (c.style_number.ensures, c.style_number-then-is_genuine.ensures) (passes (rw c.if-is_genuine.true at c.is_genuine.ensures) refl)

pub returns : goal.returns
returns c = rw c.made_up.ensures (refuses (rw c.if-is_genuine.false at c.is_genuine.ensures))
