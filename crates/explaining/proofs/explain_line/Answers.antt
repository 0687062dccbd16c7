-- `explaining::explain_line` meets its promise.
use Rattle.explaining.specs.LineLaws.{apart_writes}
use Rattle.explaining.proofs.explain_line.Goals as goal

pub returns : goal.returns
returns c = apart_writes c.put_paragraph-size.ensures c.put_front.ensures
