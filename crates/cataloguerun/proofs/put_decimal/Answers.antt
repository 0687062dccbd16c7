-- `cataloguerun::put_decimal` meets its promise.
use Rattle.linetext.specs.Laws.{large_put}
use Rattle.cataloguerun.proofs.put_decimal.Goals as goal

pub returns : goal.returns
returns c = rw c.unwrap_or.ensures (large_put c.ranges.n.fits _ c.requires c.put_at.ensures)
