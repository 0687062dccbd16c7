-- `datetext::usual::usual_day` meets its promise: what is left of the text are the digits of the day.
use native.Mathlib.Omega.{arith}
use Rattle.digits.specs.Few.{digit_seen}
use Rattle.datetext.specs.Usual.{one_digit_day}
use Rattle.datetext.proofs.usual.usual_day.Goals as goal

pub returns-then-day-lt10 : goal.returns-then-day-lt10
returns-then-day-lt10 c = λ _. one_digit_day _ (omega arith) (digit_seen _ _ c.digit_at-day.ensures c.if-day-lt10.true)
