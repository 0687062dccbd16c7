-- `cataloguerun::complain` meets its promise.
use Rattle.std.proofs.Common.{refl, ⊎_elim}
use Rattle.whole.specs.Text.{bytes}
use Rattle.cataloguerun.specs.Promise.{Complains, unread}
use Rattle.cataloguerun.specs.Laws.{complains}
use Rattle.cataloguerun.proofs.complain.Goals as goal

pub returns-in-Reading : goal.returns-in-Reading
returns-in-Reading c = ⊎_elim (λ (n, h, e). complains e c.state_with.ensures Complains.nothing_yet) (λ e. complains e c.state_with.ensures Complains.nothing) c.in-Reading.is

pub returns-in-Refused : goal.returns-in-Refused
returns-in-Refused c = complains c.in-Refused.is c.state_with-in-Refused.ensures (Complains.tells c.put_reason-used.ensures)

pub returns-in-Unread : goal.returns-in-Unread
unfolding unread bytes
returns-in-Unread c = complains c.in-Unread.is refl (Complains.cannot_read c.say.ensures)
