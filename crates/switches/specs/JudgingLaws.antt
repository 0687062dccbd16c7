-- From the bounds of a biased day, row by row, to its judgement, and what that rules out.
-- Assumes nothing.
use Rattle.std.specs.Prelude.{◌≡◌, ℕ, ◌<◌, ◌≤◌, ◌^◌, ℤ, Ok, Err}
use Rattle.std.proofs.Common.{◌∙◌, ap, subst, arith}
use Rattle.whole.specs.Promise.{unbias}
use Rattle.whole.specs.Integers.{unbias_le}
use Rattle.days.specs.BiasedDays.{day_bias, day}
use Rattle.days.specs.ReformationRules.{Outcome, accepted, Judged, TableRow, row_1, row_2, row_3, row_4, row_5}
use Rattle.days.proofs.ReformationTable.{fits_biased, table_holds}
use Rattle.inner.specs.Natural.{biased_day}
use Rattle.inner.specs.Laws.{biased_day_lem, raised_day_biased}
use Rattle.switches.specs.declared.reformation.ReformingError.{ReformingError}
use Rattle.switches.specs.declared.reformation.ReformingError.TheVariants as ReformingError'
use Rattle.switches.specs.Promise.{Judges, accepts_biased, refuses_with_1, refuses_with_2}
use Rattle.switches.specs.One.{apart}

module _ {r : ℤ} (x : ℕ) (e : unbias (2 ^ 31) x ≡ r) (h : x < 2 ^ 32) where
  by_row : {o : Outcome} → TableRow (day (biased_day x)) o → Judged r o
  by_row {o} w = subst (λ (r : ℤ). Judged r o) (biased_day_lem x ∙ e) ((table_holds (day (biased_day x)) (fits_biased (raised_day_biased h)) o).0 w)

  pub least : biased_day x < 782_219_326_295 → Judges r (Err ReformingError'.InvalidReformation)
  least g = let q : biased_day x ≡ 782_219_326_294 = omega arith in refuses_with_1 (by_row (row_1 (ap day q)))

  pub before_julian_days : 782_219_326_295 ≤ biased_day x → biased_day x < 782_219_370_428 → Judges r (Err ReformingError'.Arithmetic)
  before_julian_days f g = refuses_with_2 (by_row (row_2 (unbias_le day_bias 782_219_326_295 (biased_day x) f) (unbias_le day_bias (biased_day x) 782_219_370_427 (omega arith))))

  pub before_the_first : 782_219_370_428 ≤ biased_day x → biased_day x < 784_368_640_634 → Judges r (Err ReformingError'.InvalidReformation)
  before_the_first f g = refuses_with_1 (by_row (row_3 (unbias_le day_bias 782_219_370_428 (biased_day x) f) (unbias_le day_bias (biased_day x) 784_368_640_633 (omega arith))))

  pub between : 784_368_640_634 ≤ biased_day x → biased_day x ≤ 786_514_249_530 → Judges r (Ok (biased_day x))
  between f g = accepts_biased (by_row (row_4 (unbias_le day_bias 784_368_640_634 (biased_day x) f) (unbias_le day_bias (biased_day x) 786_514_249_530 g))) (biased_day_lem x ∙ e)

  pub past_the_last : 786_514_249_530 < biased_day x → Judges r (Err ReformingError'.Arithmetic)
  past_the_last f = refuses_with_2 (by_row (row_5 (unbias_le day_bias 786_514_249_531 (biased_day x) f) (unbias_le day_bias (biased_day x) 786_514_293_589 (omega arith))))

-- a day that is refused is no accepted reformation
pub refused_not : {r : ℤ} {e : ReformingError} → Judges r (Err e) → Judged r accepted → ⊥
refused_not (refuses_with_1 x) y = omega (arith, apart x y)
refused_not (refuses_with_2 x) y = omega (arith, apart x y)
