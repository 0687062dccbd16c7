-- `listrun::start` meets its promise.
use Rattle.std.proofs.Common.{⊎_elim}
use Rattle.listrun.specs.Promise.{Starts}
use Rattle.listrun.specs.Laws.{starts}
use Rattle.listrun.proofs.start.Goals as goal

pub returns-in-Ready : goal.returns-in-Ready
returns-in-Ready c = starts c.in-Ready.is (Starts.with_catalogue c.begin.ensures)

pub returns-in-Refused : goal.returns-in-Refused
returns-in-Refused c = starts c.in-Refused.is (Starts.with_refused c.refuse.ensures)

pub returns-in-Unread : goal.returns-in-Unread
returns-in-Unread c =
    ⊎_elim (λ e. starts e (rw c.state_with.ensures Starts.with_unread)) (λ (n, h, e). starts e (rw c.state_with.ensures Starts.with_unfinished)) c.in-Unread.is
