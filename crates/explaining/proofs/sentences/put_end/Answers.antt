-- `explaining::sentences::put_end` meets its promise.
use native.Mathlib.Omega.{arith}
use Rattle.whole.specs.Text.{bytes}
use Rattle.explaining.specs.Laws.{is_as, is_then, is_put, end_month, end_other}
use Rattle.explaining.proofs.sentences.put_end.Goals as goal

pub returns-then-number-eq3 : goal.returns-then-number-eq3
returns-then-number-eq3 c = is_as (end_month _ _ _ c.if-number-eq3.true) (omega arith) c.put_stop.ensures

pub returns : goal.returns
unfolding bytes
returns c = is_as (end_other _ _ c.args.expected c.if-number-eq3.false) (omega arith) (is_then (is_then (is_put 20 (omega arith) c.put_text-first.ensures) c.put_choices-second.ensures (omega (arith, c.requires))) c.put_stop-2.ensures (omega (arith, c.requires)))
