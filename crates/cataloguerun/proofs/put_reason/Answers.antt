-- `cataloguerun::put_reason` meets its promise.
use Rattle.whole.specs.Text.{bytes}
use Rattle.cataloguerun.specs.Promise.{refused_at}
use Rattle.cataloguerun.specs.Laws.{reasons_put, words_short}
use Rattle.cataloguerun.proofs.put_reason.Goals as goal
use Rattle.std.proofs.Common.{ap, arith, length}

pub put_text-requires : goal.put_text-requires
put_text-requires c = omega (arith, ap length c.words.ensures, words_short c.args.number, c.requires, c.put_text-first.ensures.offset, c.put_decimal-second.ensures.short, c.put_decimal-second.ensures.put.offset)

pub returns : goal.returns
unfolding refused_at bytes
returns c = reasons_put c.requires c.put_text-first.ensures c.put_decimal-second.ensures (rw c.words.ensures at c.put_text.ensures)
