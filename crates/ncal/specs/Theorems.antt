-- A name of the table gets its calendar, and every calendar of the table is accepted.
-- Assumes nothing.
use Rattle.std.specs.Prelude.{◌≡◌, refl, Bool, true, ◌&&◌, List, ◌⊎◌, ℕ, T, ℤ, pos, ◌≤ℤ◌, Option, Result, Ok}
use Rattle.std.proofs.Common.{sym, ap, subst, inl, inr}
use Rattle.std.specs.Int.Signed.{le_z, le_z_yes}
use Rattle.std.proofs.Math.Facts.{and_yes}
use Rattle.whole.specs.Integers.{unbias_le_down}
use Rattle.days.specs.DayByDay.{AcceptedReformation, julian_accepted, gregorian_accepted, reforming_accepted}
use Rattle.days.specs.BiasedDays.{day_bias}
use Rattle.days.proofs.RisingSpans.{biased_from}
use Rattle.days.proofs.ReformationTable.{accepts}
use Rattle.calendar.specs.Calendars.{Accepted}
use Rattle.calendar.specs.Rows.{refuses, passes}
use Rattle.calendar.specs.declared.Calendar.{Calendar}
use Rattle.calendar.specs.declared.Calendar.TheVariants.{Julian, Gregorian, Reforming}
use Rattle.ncal.specs.Table.{NameRow, table}
use Rattle.ncal.specs.Promise.{InTable, Known, FoundAs, in_table, in_no_row, of_row, NamesCalendar}
use Rattle.ncal.specs.Search.{among}
use Rattle.ncal.specs.One.{row_at, at_row, row_of, named_one}
use Rattle.ncal.specs.Laws.{nought, is_found}
use Rattle.refusals.specs.declared.Refusal.{Refusal}

-- it is decided whether a name is known
pub known_or_not : (s : List ℕ) → Known s ⊎ ¬ Known s
known_or_not s = by (is_found s (among s table) refl)
  where
    by : {f : Option Calendar} → FoundAs s f → Known s ⊎ ¬ Known s
    by (in_table m) = inl (_, m)
    by (in_no_row n) = inr n

-- a name of the table is answered with its calendar
pub named_row : {s : List ℕ} {c : Calendar} {a : Result Calendar Refusal} → InTable s c → NamesCalendar s a → a ≡ Ok c
named_row {s} {c} {a} m p = named_one s a (Ok c) p (passes (c, m) (of_row m))

-- ---- Every calendar of the table is accepted
in_range_lem : (r : ℤ) → pos 1_830_692 ≤ℤ r → r ≤ℤ pos 2_147_439_588 → AcceptedReformation r
in_range_lem r h g =
    let (k, e, u) = biased_from day_bias 784_368_640_634 r h in
    subst AcceptedReformation (sym e) (accepts k u (unbias_le_down day_bias k 786_514_249_530 (subst (λ (z : ℤ). z ≤ℤ pos 2_147_439_588) e g)))

in_range : Calendar → Bool
in_range Julian = true
in_range Gregorian = true
in_range (Reforming r) = le_z (pos 1_830_692) r && le_z r (pos 2_147_439_588)

range_accepted : (c : Calendar) → T (in_range c) → Accepted c
unfolding in_range
range_accepted Julian t = julian_accepted
range_accepted Gregorian t = gregorian_accepted
range_accepted (Reforming r) t = let (a, b) = and_yes (le_z (pos 1_830_692) r) _ t in reforming_accepted (in_range_lem r (le_z_yes a) (le_z_yes b))

row_in_range : ℕ → NameRow → Bool
row_in_range k r = in_range r.calendar

pub table_accepted : {s : List ℕ} {c : Calendar} → InTable s c → Accepted c
unfolding row_in_range in_range table
table_accepted m =
    let (k, h, e) = row_of m in
    subst Accepted (ap (λ (r : NameRow). r.calendar) (sym e)) (range_accepted (row_at k).calendar (at_row row_in_range tt k h))

-- and so is every calendar that a name is answered with
pub named_accepted : {s : List ℕ} {a : Result Calendar Refusal} → NamesCalendar s a → {c : Calendar} → a ≡ Ok c → Accepted c
named_accepted (refuses n) e = let z : ◌≡◌ {A = ℕ} 0 1 = cc in absurd (nought z)
named_accepted (passes k (of_row {c = b} m)) {c} e = let q : b ≡ c = cc in subst Accepted q (table_accepted m)
