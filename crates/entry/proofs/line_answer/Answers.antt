-- `entry::line_answer` meets its promise: 20, or the name and the text of the line lead to the answer.
use native.Mathlib.Omega.{arith}
use Rattle.calendar.specs.Rows.{passes}
use Rattle.refusals.specs.Passed.{passed_on}
use Rattle.entry.specs.Laws.{to_the_end}
use Rattle.entry.specs.Promise.{no_name, by_text}
use Rattle.entry.proofs.line_answer.Goals as goal

pub returns-in_err-calendar : goal.returns-in_err-calendar
returns-in_err-calendar c = rw (passed_on _ c.from_residual.ensures.1) (passes (λ h. omega (arith, h)) (no_name c.parts_of-name_end.ensures.entry c.in_err-calendar.ensures))

pub returns : goal.returns
returns c = passes (λ h. omega (arith, h)) (by_text c.parts_of-name_end.ensures.entry c.in_ok-calendar.ensures (rw (to_the_end _ _) at c.parse_date.ensures))
