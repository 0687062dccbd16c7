-- `explaining::choices::put_further` meets its promise.
use lib.ListN.{length}
use Rattle.whole.specs.Text.{bytes}
use native.Mathlib.Omega.{arith}
use Rattle.explaining.specs.Laws.{is_put, is_then, is_as, further_or}
use Rattle.explaining.proofs.choices.put_further.Goals as goal

pub returns-then-named : goal.returns-then-named
unfolding bytes
returns-then-named c = is_as (further_or _ _ c.if-holds.true c.if-named.true) (omega arith) (is_then (is_put 4 (omega arith) c.put_text-next.ensures) (is_put (length c.args.word.now) (omega arith) c.put_text.ensures) (omega arith))
