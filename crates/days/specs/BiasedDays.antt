-- Days and years as naturals. A day n is biased as n + dayBias, a year y as y + yearBias; yearBias is a multiple of 400, and day 0 of the
-- biased Julian years is their first day. The bounds are those of 32 bits.
use Rattle.std.specs.Prelude.{ℕ, ◌≤◌, ◌<◌, ℤ}
use Rattle.whole.specs.Promise.{unbias}

abbrev pub day_bias : ℕ
day_bias = 784_366_809_942

abbrev pub year_bias : ℕ
year_bias = 2_147_484_000

-- the day and the year of a natural
abbrev pub day : ℕ → ℤ
day = unbias day_bias

abbrev pub year : ℕ → ℤ
year = unbias year_bias

pub record BiasedDay (k : ℕ) : Type 0 where
  pub from : 782_219_326_294 ≤ k
  pub to : k < 786_514_293_590

pub record BiasedYear (y : ℕ) : Type 0 where
  pub from : 352 ≤ y
  pub to : y < 4_294_967_648
