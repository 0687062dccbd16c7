-- `swedish::labelled` meets its promise.
use mathlib.Core.Path.{◌≡◌, refl, subst}
use Prim.Native.Nat.{ℕ, ◌+◌, ◌-◌, ◌≤◌}
use native.Mathlib.Omega.{arith}
use mathlib.Core.Bool.{Bool}
use Rattle.days.specs.DayByDay.{Swedish, labels}
use Rattle.days.specs.BiasedDays.{day}
use Rattle.monthdays.specs.Promise.{MonthDayAt}
use Rattle.inner.specs.Natural.{biased_year_value}
use Rattle.inner.specs.Laws.{raised_year_biased}
use Rattle.swedish.specs.Private.{Labelled}
use Rattle.swedish.specs.Promise.{label_at}
use Rattle.swedish.specs.Laws.{in_year}
use Rattle.swedish.proofs.labelled.Goals as goal

label_is_at : (k y o : ℕ) (leap : Bool) {m d : ℕ} → Labelled k y o leap → MonthDayAt leap (o - 1 + 1) m d → labels Swedish (day k) ≡ label_at y m d
label_is_at k y o leap {m} {d} p at = p.label_at_lem m d (subst (λ (o : ℕ). MonthDayAt leap o m d) (one o p.from) at)
  where
    one : (o : ℕ) → 1 ≤ o → o - 1 + 1 ≡ o
    one o h = omega arith

pub overflow_sub-result : goal.overflow_sub-result
overflow_sub-result c =
    let l = label_is_at c.args.biased c.args.year c.args.ordinal c.args.leap c.requires.1 c.month_day-at.ensures in
    omega (arith, (in_year (biased_year_value c.args.year) (raised_year_biased c.ranges.year.fits) c.args.biased l c.days_of-january.ensures).1)

pub overflow_cast-result : goal.overflow_cast-result
overflow_cast-result c =
    let l = label_is_at c.args.biased c.args.year c.args.ordinal c.args.leap c.requires.1 c.month_day-at.ensures in
    record { fits = omega (arith, (in_year (biased_year_value c.args.year) (raised_year_biased c.ranges.year.fits) c.args.biased l c.days_of-january.ensures).2) }

pub returns : goal.returns
returns c =
    let l = label_is_at c.args.biased c.args.year c.args.ordinal c.args.leap c.requires.1 c.month_day-at.ensures in
    record { biased_is = refl; label_is = l; ordinal_is = (in_year (biased_year_value c.args.year) (raised_year_biased c.ranges.year.fits) c.args.biased l c.days_of-january.ensures).0 }
