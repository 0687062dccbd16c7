-- `datetext::usual::usual_year` meets its promise: the digits before the dash are those of the year.
use native.Mathlib.Omega.{arith}
use Rattle.digits.specs.Few.{digit_seen}
use Rattle.datetext.specs.Usual.{Hundreds}
use Rattle.datetext.proofs.usual.usual_year.Goals as goal

pub year_at-requires : goal.year_at-requires
year_at-requires c = Hundreds.two (omega arith) c.if-text-eq45.true c.pair_at-hundreds.ensures

pub year_at-requires-then-hundreds-lt10 : goal.year_at-requires-then-hundreds-lt10
year_at-requires-then-hundreds-lt10 c = Hundreds.one (omega arith) c.if-text-eq45-2.true (digit_seen _ _ c.digit_at-hundreds.ensures c.if-hundreds-lt10.true)
