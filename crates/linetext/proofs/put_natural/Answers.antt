-- `linetext::put_natural` meets its promise: the digits above the last four, and those (`put_eight`).
use native.Mathlib.Omega.{arith}
use Rattle.linetext.specs.Laws.{put_eight}
use Rattle.linetext.proofs.put_natural.Goals as goal

pub returns-then-n-lt100000000 : goal.returns-then-n-lt100000000
returns-then-n-lt100000000 c = put_eight c.if-n-lt10000.false (omega (arith, c.requires)) c.put_small-next.ensures c.put_four.ensures
