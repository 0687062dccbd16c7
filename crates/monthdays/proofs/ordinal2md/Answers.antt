-- `monthdays::ordinal2md` meets its promise.
use mathlib.Core.Path.{◌≡◌, subst}
use Prim.Native.Nat.{ℕ, ◌+◌, ◌-◌}
use native.Mathlib.Omega.{arith}
use Rattle.monthdays.specs.Promise.{MonthDayAt, no_month_day}
use Rattle.monthdays.specs.Laws.{in_year_to, month_few, year_few, month_answer}
use Rattle.monthdays.proofs.ordinal2md.Goals as goal
use Rattle.monthdays.proofs.ordinal2md.Goals.{After-month_day-at}

-- the month and the day at the place that is asked for
place : (c : After-month_day-at) → MonthDayAt c.args.leap c.args.ordinal c.month_day-at.result.month c.month_day-at.result.day
place c =
    let o = c.args.ordinal in
    let e : o - 1 + 1 ≡ o = omega (arith, c.if-ordinal-lt1.false) in
    subst (λ (o : ℕ). MonthDayAt c.args.leap o c.month_day-at.result.month c.month_day-at.result.day) e c.month_day-at.ensures

pub returns-then-ordinal-lt1 : goal.returns-then-ordinal-lt1
returns-then-ordinal-lt1 c = no_month_day (λ m d p. omega (arith, p.from))

pub returns-then-at-gt12 : goal.returns-then-at-gt12
returns-then-at-gt12 c =
    let t = (goal.at.returns-then-at-gt12 c).After-month_day-at in
    no_month_day (λ m d p. omega (arith, month_few t.if-ordinal-lt1.false (in_year_to t.args.leap p) (place t), c.if-at-gt12.true))

pub returns : goal.returns
returns c =
    let t = (goal.at.returns c).After-month_day-at in
    month_answer t.if-ordinal-lt1.false (year_few t.args.leap (place t) c.if-at-gt12.false) (place t)
