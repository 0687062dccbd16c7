-- `switches::month_span` meets its promise.
use native.Mathlib.Omega.{arith}
use Rattle.days.proofs.ClosedGregorian as G
use Rattle.days.proofs.ClosedJulian as J
use Rattle.inner.specs.Natural.{biased_year_value}
use Rattle.switches.specs.Laws.{plain_first, plain_past, month_span_is}
use Rattle.switches.specs.Promise.{no_month}
use Rattle.switches.proofs.month_span.Goals as goal

pub returns-then-month-lt1 : goal.returns-then-month-lt1
returns-then-month-lt1 c = rw c.refusal_with.ensures (no_month (λ v. omega (arith, v.0, c.if-month-lt1.true)))

pub returns : goal.returns
returns c =
    let y = biased_year_value c.args.year in
    let jl = c.is_julian_leap.ensures in
    let js = c.julian_start.ensures in
    let gl = c.is_gregorian_leap.ensures in
    let gs = c.gregorian_start.ensures in
    month_span_is c.args.switch y c.args.month (omega arith, omega arith)
    (plain_first J.leap_at J.start y jl js c.month_in-old.ensures) (plain_first G.leap_at G.start y gl gs c.month_in-new.ensures)
    (plain_past J.leap_at J.start y jl js c.month_in-old.ensures) (plain_past G.leap_at G.start y gl gs c.month_in-new.ensures)
    c.first_day.ensures c.first_day-2.ensures
