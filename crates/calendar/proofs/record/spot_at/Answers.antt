-- `calendar::record::spot_at` meets its promise.
use mathlib.Core.Path.{◌≡◌, refl, subst}
use Prim.Native.Nat.{ℕ, ◌+◌, ◌-◌}
use native.Mathlib.Omega.{arith}
use Rattle.monthdays.specs.Promise.{MonthDayAt}
use Rattle.calendar.proofs.record.spot_at.Goals as goal

pub returns : goal.returns
returns c =
    let o = c.args.ordinal in
    let e : o - 1 + 1 ≡ o = omega (arith, c.requires) in
    record {
      is = refl;
      month_day = subst (λ (o : ℕ). MonthDayAt c.args.leap o c.month_day-at.result.month c.month_day-at.result.day) e c.month_day-at.ensures;
    }
