-- `calendar::record::reform_record` meets its promise.
use mathlib.Core.Path.{◌≡◌, sym, ◌∙◌, ap}
use Prim.Native.Nat.{ℕ, ◌+◌, ◌-◌}
use native.Mathlib.Omega.{arith}
use mir.Syntax.{w32}
use mir.Facts.{to_z-of_z}
use Rattle.days.proofs.ClosedJulian as J
use Rattle.days.specs.ClosedRuns.{first_day_value, julian_month_value}
use Rattle.inner.specs.Laws.{biased_year}
use Rattle.inner.specs.Natural.{biased_year_value}
use Rattle.calendar.specs.Laws.{labelled_room, labelled_month, record_reform, reform_year_room, reform_month_room}
use Rattle.calendar.proofs.record.reform_record.Goals as goal
use Rattle.calendar.proofs.record.reform_record.Goals.{After-lowered}

-- the first days of its year and its month
year_first_lem : (c : After-lowered)
    → c.first_day-year_first.result ≡ first_day_value c.args.switch (J.start (biased_year_value c.args.s.year)) (c.args.s.biased + 1 - c.args.s.ordinal)
year_first_lem c = c.first_day-year_first.ensures ∙ ap (λ (j : ℕ). first_day_value c.args.switch j (c.args.s.biased + 1 - c.args.s.ordinal)) c.julian_start.ensures

month_first : (c : After-lowered)
    → c.first_day-month_first.result ≡ first_day_value c.args.switch (julian_month_value (biased_year_value c.args.s.year) c.args.s.month) (c.args.s.biased + 1 - c.args.s.day)
month_first c = c.first_day-month_first.ensures ∙ ap (λ (j : ℕ). first_day_value c.args.switch j (c.args.s.biased + 1 - c.args.s.day)) c.julian_month.ensures

pub overflow_add-past : goal.overflow_add-past
overflow_add-past c = record { fits = omega (arith, labelled_room c.requires.1) }

pub overflow_sub-past : goal.overflow_sub-past
overflow_sub-past c = (labelled_room c.requires.1).3

pub julian_month-requires : goal.julian_month-requires
julian_month-requires c = labelled_month c.args.calendar c.requires.0 c.requires.1

pub overflow_sub-past-2 : goal.overflow_sub-past-2
overflow_sub-past-2 c = (labelled_room c.requires.1).4

pub overflow_sub-result : goal.overflow_sub-result
overflow_sub-result c = (reform_year_room c.args.s c.requires.1 c.requires.3 (year_first_lem c)).0

pub overflow_cast-result : goal.overflow_cast-result
overflow_cast-result c = record { fits = (reform_year_room c.args.s c.requires.1 c.requires.3 (year_first_lem c)).1 }

pub overflow_sub-result-2 : goal.overflow_sub-result-2
overflow_sub-result-2 c = (reform_month_room c.args.s c.requires.1 c.requires.3 (month_first c)).0

pub overflow_cast-result-2 : goal.overflow_cast-result-2
overflow_cast-result-2 c = record { fits = (reform_month_room c.args.s c.requires.1 c.requires.3 (month_first c)).1 }

pub returns : goal.returns
returns c =
    rw (to_z-of_z c.ranges.jdn) (record_reform c.args.calendar c.requires.0 c.args.s c.requires.1 c.requires.2 c.requires.3
    (biased_year c.args.s.year ∙ sym c.lowered.ensures ∙ sym (to_z-of_z {w = w32} (record { sfits = c.lowered.type_inv }))) (year_first_lem c) (month_first c))
