-- `explaining::explain_too_long` meets its promise.
use Rattle.explaining.specs.LineLaws.{apart_writes}
use Rattle.explaining.proofs.explain_too_long.Goals as goal

pub returns : goal.returns
returns c = apart_writes c.put_long-size.ensures c.put_front.ensures
