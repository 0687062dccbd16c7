-- `calendar::record::on_day` meets its promise: in the Julian run, and in the Gregorian one.
use mathlib.Core.Path.{sym, ◌∙◌, ap}
use Prim.Native.Nat.{ℕ}
use mir.Facts.{to_z-of_z}
use Rattle.days.specs.BiasedDays.{day}
use Rattle.days.proofs.ClosedRange.{julian_year, gregorian_year}
use Rattle.inner.specs.Laws.{biased_day_lem, raised_day_biased}
use Rattle.calendar.specs.Laws.{spot_old, spot_new}
use Rattle.calendar.proofs.record.on_day.Goals as goal

pub spot_at-s-requires : goal.spot_at-s-requires
spot_at-s-requires c = c.julian_place-old.ensures.from

pub record_of-requires : goal.record_of-requires
record_of-requires c =
    let p = c.julian_place-old.ensures in (
      c.requires,
      spot_old (julian_year (raised_day_biased c.raised-x.type_inv) p) c.if-today-switch.true p c.is_julian_leap.ensures c.spot_at-s.ensures,
      ap (λ (k : ℕ). day k) (ap (λ s. s.biased) c.spot_at-s.ensures.is) ∙ biased_day_lem c.raised-x.result ∙ c.raised-x.ensures ∙ to_z-of_z c.ranges.jdn ∙ sym (to_z-of_z c.ranges.jdn),
    )

pub returns-then-today-switch : goal.returns-then-today-switch
returns-then-today-switch c = rw (to_z-of_z c.ranges.jdn) at c.record_of.ensures

pub spot_at-s-requires-2 : goal.spot_at-s-requires-2
spot_at-s-requires-2 c = c.gregorian_place-new.ensures.from

pub record_of-requires-2 : goal.record_of-requires-2
record_of-requires-2 c =
    let p = c.gregorian_place-new.ensures in (
      c.requires,
      spot_new (gregorian_year (raised_day_biased c.raised-x.type_inv) p) c.if-today-switch.false p c.is_gregorian_leap.ensures c.spot_at-s-2.ensures,
      ap (λ (k : ℕ). day k) (ap (λ s. s.biased) c.spot_at-s-2.ensures.is) ∙ biased_day_lem c.raised-x.result ∙ c.raised-x.ensures ∙ to_z-of_z c.ranges.jdn ∙ sym (to_z-of_z c.ranges.jdn),
    )

pub returns : goal.returns
returns c = rw (to_z-of_z c.ranges.jdn) at c.record_of-2.ensures
