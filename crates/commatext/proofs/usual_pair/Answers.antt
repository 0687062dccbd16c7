-- `commatext::usual_pair` meets its promise.
use Rattle.commatext.specs.Private.{FindsUsual}
use Rattle.commatext.specs.Laws.{before_end, usual_found}
use Rattle.commatext.proofs.usual_pair.Goals as goal

pub returns-then-comma-s : goal.returns-then-comma-s
returns-then-comma-s c = FindsUsual.other

pub returns-then-end-gt-LONGEST_RECORD : goal.returns-then-end-gt-LONGEST_RECORD
returns-then-end-gt-LONGEST_RECORD c = FindsUsual.other

pub returns-in-Ends : goal.returns-in-Ends
returns-in-Ends c = usual_found c.usual_end-comma.ensures (before_end c.usual_end-comma.ensures.within c.if-comma-s.false) c.if-s-comma-eq44.true c.usual_end-end.ensures c.if-end-gt-LONGEST_RECORD.false (rw c.in-Ends.is at c.next_outside.ensures)

pub returns-in_default : goal.returns-in_default
returns-in_default c = FindsUsual.other

pub returns-else-s-comma-eq44 : goal.returns-else-s-comma-eq44
returns-else-s-comma-eq44 c = FindsUsual.other
