-- `explaining::choices::put_digits` meets its promise.
use Rattle.whole.specs.Text.{bytes}
use native.Mathlib.Omega.{arith}
use Rattle.explaining.specs.Laws.{is_put, is_then, is_as, is_nothing, words_none, words_one, words_some, words_any}
use Rattle.explaining.proofs.choices.put_digits.Goals as goal

pub returns-then-digits-eq0 : goal.returns-then-digits-eq0
returns-then-digits-eq0 c = is_as (words_none c.if-digits-eq0.true) (omega arith) (is_nothing _ _ 14)

pub returns-then-digits-eq1 : goal.returns-then-digits-eq1
unfolding bytes
returns-then-digits-eq1 c = is_as (words_one c.if-digits-eq1.true) (omega arith) (is_put 14 (omega arith) c.put_text.ensures)

pub returns-then-digits-lt10 : goal.returns-then-digits-lt10
unfolding bytes
returns-then-digits-lt10 c = is_as (words_some c.if-digits-eq0.false c.if-digits-eq1.false c.if-digits-lt10.true) (omega arith) (is_then (is_put 13 (omega arith) c.put_text-last.ensures) (is_put 1 (omega arith) c.put_byte.ensures) (omega arith))

pub returns : goal.returns
unfolding bytes
returns c = is_as (words_any c.if-digits-eq0.false c.if-digits-eq1.false c.if-digits-lt10.false) (omega arith) (is_put 14 (omega arith) c.put_text-2.ensures)
