-- `swedish::plain` meets its promise.
use Rattle.swedish.specs.Laws.{plain_is, refused_none}
use Rattle.swedish.proofs.plain.Goals as goal

pub returns-in-Ok : goal.returns-in-Ok
returns-in-Ok c = plain_is c.in-Ok.ensures

pub returns-in-Err : goal.returns-in-Err
returns-in-Err c = absurd (refused_none c.in-Err.ensures c.requires)
