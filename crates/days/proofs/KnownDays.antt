-- The known days that the scope document marks as to be proved, all under one statement about the definitions.
-- Assumes nothing.
use Rattle.std.specs.Prelude.{◌≡◌, refl, ℕ, ◌+◌, ◌-◌, ◌≤◌, T, leb, ltb, pos, Bool, ◌&&◌}
use Rattle.std.proofs.Common.{ap, arith}
use Rattle.std.proofs.Math.Facts.{and_yes, leb_yes, ltb_yes}
use Rattle.days.specs.DayByDay.{Label, label, month_length, splice, Calendar, Reforming, labels, DayOrdinal, YearLength, Skipped, Missing}
use Rattle.days.specs.BiasedDays.{day, year, BiasedYear}
use Rattle.days.proofs.ClosedJulian as J
use Rattle.days.proofs.ClosedGregorian as G
use Rattle.days.proofs.ClosedNumbers.{There, number}
use Rattle.days.proofs.ReformationTable.{accepts}
use Rattle.days.proofs.ClosedRuns.{Runs, julian_runs, gregorian_runs, reforming_runs, on_old, on_new, gregorian_past, month_over, in_gap, on_none, ordinal_at, day_ordinal_at, year_stretch, year_first, month_first_value}
use Rattle.days.proofs.ClosedWeekdays.{weekday_is}
use Rattle.days.proofs.Swedish as S
use Rattle.days.proofs.SwedishMonths as M
pub use Rattle.days.specs.KnownDays.{YearIs, Dated, KnownDays, KnownGaps, SwedishDays, NamedDays}

-- ---- The statement

-- ---- The proof: each day by its year, month and day in the calendar that labels it, and its places by the first days of year and month.
-- What is asked of the numbers is a test that is computed.
test_there : (ℕ → Bool) → ℕ → ℕ → ℕ → Bool
test_there leap_at y m d = leb 352 y && (ltb y 4_294_967_648 && (leb 1 m && (leb m 12 && (leb 1 d && leb d (month_length (leap_at y) m)))))

module _ (leap_at : ℕ → Bool) (y m d : ℕ) (t : T (test_there leap_at y m d)) where
  tested : (BiasedYear y) × There leap_at y m d
  unfolding test_there
  tested =
      let (a, t₁) = and_yes (leb 352 y) _ t in
      let (b, t₂) = and_yes (ltb y 4_294_967_648) _ t₁ in
      let (c, t₃) = and_yes (leb 1 m) _ t₂ in
      let (e, t₄) = and_yes (leb m 12) _ t₃ in
      let (f, g) = and_yes (leb 1 d) _ t₄ in
      (record { from = leb_yes a; to = ltb_yes b }, (leb_yes c, leb_yes e, leb_yes f, leb_yes g))

-- what is known of day k in the calendar c, of year y, month m, day d
record Known (c : Calendar) (r k y m d : ℕ) : Type 0 where
  dated : Dated c (day k) (year y) m d (k + 1 - year_first r y)
  day_ordinal : DayOrdinal (labels c) (day k) (k + 1 - month_first_value r y m)

module _ {c : Calendar} {r : ℕ} (runs : Runs c r) (y m d : ℕ) where
  known : (k : ℕ) → BiasedYear y → 1 ≤ m → m ≤ 12 → labels c (day k) ≡ label (year y) m d → Known c r k y m d
  known k h u v e = record { dated = (e, ordinal_at runs k y m d h e); day_ordinal = day_ordinal_at runs k y m d h e u v }

  in_julian : T (test_there J.leap_at y m d) → T (ltb (number J.leap_at J.start y m d) r) → Known c r (number J.leap_at J.start y m d) y m d
  in_julian t u =
      let (h, w) = tested J.leap_at y m d t in
      known (number J.leap_at J.start y m d) h w.0 w.1 (on_old runs y m d refl h w (ltb_yes u))

  in_gregorian : T (test_there G.leap_at y m d) → T (leb r (number G.leap_at G.start y m d)) → Known c r (number G.leap_at G.start y m d) y m d
  in_gregorian t u =
      let (h, w) = tested G.leap_at y m d t in
      known (number G.leap_at G.start y m d) h w.0 w.1 (on_new runs y m d refl h w (leb_yes u))

length_at : {c : Calendar} {r : ℕ} → Runs c r → (y : ℕ) → T (leb 352 y) → T (ltb y 4_294_967_648) → YearLength (labels c) (year y) (year_first r (y + 1) - year_first r y)
length_at runs y h k = (year_stretch runs y (record { from = leb_yes h; to = ltb_yes k })).days

reforming : (r : ℕ) → T (leb 784_368_640_634 r) → T (leb r 786_514_249_530) → Runs (Reforming (day r)) r
reforming r h k = reforming_runs r (accepts r (leb_yes h) (leb_yes k))

-- a label of the Julian calendar that a switch took away, of a month that was over by then in the Gregorian one
taken_away : {c : Calendar} {r : ℕ} → Runs c r → (y m d : ℕ) → T (test_there J.leap_at y m d) → T (leb r (number J.leap_at J.start y m d)) → T (leb (gregorian_past y m) r) → Skipped c (label (year y) m d)
taken_away runs y m d t u v = let (h, w) = tested J.leap_at y m d t in in_gap runs y m d refl h w (leb_yes u) (month_over (leb_yes v))

-- a label of neither
in_neither : {c : Calendar} {r : ℕ} → Runs c r → (y m d : ℕ) → T (leb 352 y) → T (ltb y 4_294_967_648) → ¬ There G.leap_at y m d → ¬ There J.leap_at y m d → Missing c (label (year y) m d)
in_neither runs y m d h k n i = on_none runs y m d refl (record { from = leb_yes h; to = ltb_yes k }) n (λ t. absurd (i t)) (λ t. absurd (i t))

pub known_days : KnownDays
unfolding month_length test_there
known_days =
    let first = in_julian julian_runs 2_147_479_288 1 1 tt tt in
    let first_new = in_gregorian gregorian_runs 2_147_479_287 11 24 tt tt in
    let in_1752 = in_gregorian (reforming 784_369_171_164 tt tt) 2_147_485_752 9 14 tt tt in
    let in_december = in_gregorian (reforming 784_369_229_693 tt tt) 2_147_485_912 12 14 tt tt in
    record {
      zero_julian = (ap (λ (l : Label). l.year) first.dated.0, first.dated.1);
      zero_gregorian = (ap (λ (l : Label). l.year) first_new.dated.0, first_new.dated.1);
      least_julian = (in_julian julian_runs 2_141_599_798 3 16 tt tt).dated;
      least_gregorian = (in_gregorian gregorian_runs 2_141_599_677 5 15 tt tt).dated;
      greatest_julian = (in_julian julian_runs 2_153_358_777 10 17 tt tt).dated;
      greatest_gregorian = (in_gregorian gregorian_runs 2_153_358_898 6 3 tt tt).dated;
      last_julian_1582 = (in_julian (reforming 784_369_109_103 tt tt) 2_147_485_582 10 4 tt tt).dated;
      first_gregorian_1582 = (in_gregorian (reforming 784_369_109_103 tt tt) 2_147_485_582 10 15 tt tt).dated;
      length_1582 = length_at (reforming 784_369_109_103 tt tt) 2_147_485_582 tt tt;
      last_julian_300 = (in_julian (reforming 784_368_640_634 tt tt) 2_147_484_300 2 28 tt tt).dated.0;
      first_gregorian_300 = (in_gregorian (reforming 784_368_640_634 tt tt) 2_147_484_300 3 1 tt tt).dated;
      skipped_300 = taken_away (reforming 784_368_640_634 tt tt) 2_147_484_300 2 29 tt tt tt;
      length_1911 = length_at (reforming 784_369_229_345 tt tt) 2_147_485_911 tt tt;
      first_gregorian_1912 = (in_gregorian (reforming 784_369_229_345 tt tt) 2_147_485_912 1 1 tt tt).dated;
      first_gregorian_1752 = in_1752.dated;
      day_ordinal_1752 = in_1752.day_ordinal;
      first_gregorian_december = in_december.dated;
      day_ordinal_december = in_december.day_ordinal;
      friday = weekday_is 2_149_782_809;
      second_before_epoch = record { rest = omega arith; adds = refl };
    }

pub known_gaps : KnownGaps
unfolding month_length test_there
known_gaps =
    record {
      skipped_1700 = taken_away (reforming 784_369_151_974 tt tt) 2_147_485_700 2 29 tt tt tt;
      missing_1700 = in_neither (reforming 784_369_151_974 tt tt) 2_147_485_700 2 30 tt tt (λ (h, k, g, l). omega arith) (λ (h, k, g, l). omega arith);
      missing_1753 = in_neither (reforming 784_369_171_332 tt tt) 2_147_485_753 2 29 tt tt (λ (h, k, g, l). omega arith) (λ (h, k, g, l). omega arith);
    }

pub swedish_days : SwedishDays
unfolding splice
swedish_days =
    record {
      last_1700 = S.last_before_1700;
      first_1700 = S.first_moved;
      before_1712 = S.last_moved;
      thirtieth_1712 = (S.thirtieth, M.ordinal_of_the_thirtieth);
      after_1712 = S.first_julian_again;
      last_1753 = S.last_julian_1753;
      first_1753 = S.first_gregorian_1753;
      style_before = refl;
      style_from = refl;
      style_to = refl;
      style_after = refl;
      length_1700 = M.length_1700;
      length_1712 = M.length_1712;
      length_1753 = M.length_1753;
      skipped_1700 = M.swedish_skips M.in_1700;
      missing_1700 = M.missing_1700;
      missing_1712 = M.missing_1712;
      skipped_first_1753 = M.swedish_skips (M.in_1753 {d = 18} (omega arith) (omega arith));
      skipped_last_1753 = M.swedish_skips (M.in_1753 {d = 28} (omega arith) (omega arith));
      missing_1753 = M.missing_1753;
    }

pub named_days : NamedDays (pos 2_299_161) (pos 2_440_588) (pos 1_721_425)
unfolding month_length test_there
named_days =
    record {
      first_reformed = (in_gregorian gregorian_runs 2_147_485_582 10 15 tt tt).dated.0;
      first_of_1970 = (in_gregorian gregorian_runs 2_147_485_970 1 1 tt tt).dated.0;
      last_of_0 = (in_gregorian gregorian_runs 2_147_484_000 12 31 tt tt).dated.0;
    }
