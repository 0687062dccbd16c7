-- `monthdays::md2ordinal` meets its promise.
use native.Mathlib.Omega.{arith}
use Rattle.monthdays.specs.Promise.{no_ordinal}
use Rattle.monthdays.specs.Laws.{in_year_valid, ordinal_found, ordinal_few}
use Rattle.monthdays.proofs.md2ordinal.Goals as goal

pub returns-then-day-lt1 : goal.returns-then-day-lt1
returns-then-day-lt1 c = no_ordinal (λ o p. omega (arith, (in_year_valid c.args.leap p).1))

pub returns-then-month-lt1 : goal.returns-then-month-lt1
returns-then-month-lt1 c = no_ordinal (λ o p. omega (arith, (in_year_valid c.args.leap p).0.0))

pub returns-then-month-gt12 : goal.returns-then-month-gt12
returns-then-month-gt12 c = no_ordinal (λ o p. omega (arith, (in_year_valid c.args.leap p).0.1))

pub is_past-requires : goal.is_past-requires
is_past-requires c = (c.if-month-lt1.false, c.if-month-gt12.false)

pub returns-then-is_past : goal.returns-then-is_past
returns-then-is_past c = no_ordinal (λ o p. omega (arith, (in_year_valid c.args.leap p).2, c.is_past.ensures.0 c.if-is_past.true))

pub days_before-requires : goal.days_before-requires
days_before-requires c = (c.if-month-lt1.false, c.if-month-gt12.false)

pub overflow_add-result : goal.overflow_add-result
overflow_add-result c =
    let a = c in
    record { fits = omega (arith, ordinal_few a.args.leap a.args.month a.args.day (c.if-month-lt1.false, c.if-month-gt12.false) c.if-day-lt1.false (c.is_past.ensures.1 c.if-is_past.false) c.days_before.ensures) }

pub returns : goal.returns
returns c =
    let a = c in
    ordinal_found a.args.leap a.args.month a.args.day (c.if-month-lt1.false, c.if-month-gt12.false) c.if-day-lt1.false (c.is_past.ensures.1 c.if-is_past.false) c.days_before.ensures
