-- `calendar::record::plain_record` meets its promise.
use mathlib.Core.Path.{sym, ◌∙◌, ap}
use Prim.Native.Nat.{ℕ}
use lib.IntN.{ℤ}
use mir.Syntax.{w32}
use mir.Val.{to_z, of_z}
use mir.Facts.{to_z-of_z}
use Rattle.inner.specs.Laws.{biased_year}
use Rattle.calendar.specs.declared.Calendar.{Calendar}
use Rattle.calendar.specs.declared.Style.{Style}
use Rattle.calendar.specs.declared.Date.{Date}
use Rattle.calendar.proofs.record.plain_record.Goals as goal

abbrev whole : Calendar → Style → ℤ → ℕ → ℕ → ℕ → ℤ → Date
whole c v y o m d n = record { calendar = c; year = y; ordinal = o; month = m; day = d; day_ordinal = d; jdn = n; style = v }

pub returns : goal.returns
returns c =
    let s = c.args.s in
    ap (λ (z : ℤ). whole c.args.calendar c.args.style z s.ordinal s.month s.day (to_z w32 (of_z w32 c.args.jdn))) (to_z-of_z {w = w32} (record { sfits = c.lowered.type_inv }) ∙ c.lowered.ensures ∙ sym (biased_year s.year))
    ∙ ap (whole c.args.calendar c.args.style _ s.ordinal s.month s.day) (to_z-of_z c.ranges.jdn)
