-- `houseline::read_line` meets its promise.
use Rattle.houseline.specs.Laws.{form_long, form_no_tab, no_tab, parts, reads_outcome, reads_no_name, reads_no_number}
use Rattle.houseline.specs.Promise.{malformed}
use native.Mathlib.Omega.{arith}
use Rattle.houseline.proofs.read_line.Goals.{else-is_name-via-then-is_name+else-is_number, else-is_name-via-else-is_name}
use Rattle.houseline.proofs.read_line.Goals as goal

pub returns-then-line-gt-LONGEST_READ : goal.returns-then-line-gt-LONGEST_READ
returns-then-line-gt-LONGEST_READ c = malformed (form_long c.if-line-gt-LONGEST_READ.true)

pub returns-then-line-tab : goal.returns-then-line-tab
returns-then-line-tab c = malformed (form_no_tab (no_tab c.by_eights-tab.ensures c.if-line-tab.true))

pub returns-then-is_number : goal.returns-then-is_number
returns-then-is_number c = reads_outcome (parts c.by_eights-tab.ensures c.if-line-tab.false) (omega arith) (rw c.if-is_name.true at c.is_name.ensures) c.if-line-gt-LONGEST_READ.false c.house_of.ensures

pub returns : goal.returns
returns c = elim c.else-is_name.branch [
  | else-is_name-via-then-is_name+else-is_number w ↦ reads_no_number (parts c.by_eights-tab.ensures c.if-line-tab.false) (rw w.if-is_number.false at w.is_number.ensures)
  | else-is_name-via-else-is_name w ↦ reads_no_name (parts c.by_eights-tab.ensures c.if-line-tab.false) (rw w.if-is_name.false at c.is_name.ensures)
]
