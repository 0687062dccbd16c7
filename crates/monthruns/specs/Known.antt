-- Known months of calendars that reform, about the definition: a gap inside the month, at its end, at its beginning, and over the whole of it.
-- Assumes nothing.
use Rattle.std.specs.Prelude.{refl, ℕ, T, leb, ltb, pos}
use Rattle.std.proofs.Common.{arith}
use Rattle.std.proofs.Math.Facts.{leb_yes, ltb_yes}
use Rattle.days.specs.DayByDay.{Month, month_length}
use Rattle.days.specs.BiasedDays.{day, year}
use Rattle.days.proofs.ReformationTable.{accepts}
use Rattle.days.proofs.ClosedRuns.{reforming_runs}
use Rattle.calendar.specs.declared.Calendar.TheVariants.{Reforming}
use Rattle.calendar.specs.Calendars.{labels}
use Rattle.switches.specs.Promise.{month_span}
use Rattle.monthruns.specs.declared.Run.{Run}
use Rattle.monthruns.specs.declared.Runs.{Runs}
use Rattle.monthruns.specs.declared.Runs.TheVariants.{Nothing, One, Two}
use Rattle.monthruns.specs.Promise.{HasRuns}
use Rattle.monthruns.specs.Natural.{RunsIn, no_run, new_run, old_run, two_runs}
use Rattle.monthruns.specs.Laws.{has_runs}

abbrev pub days : ℕ → ℕ → Run
days a b = record { first = a; last = b }

pub record Known : Type 0 where
  -- 4 October 1582, then the 15th; 2 September 1752, then the 14th
  pub october_1582 : HasRuns (labels (Reforming (pos 2_299_161))) (pos 1582) 10 (Two (days 1 4) (days 15 31))
  pub september_1752 : HasRuns (labels (Reforming (pos 2_361_222))) (pos 1752) 9 (Two (days 1 2) (days 14 30))
  -- 18 February 1700, then 1 March; 30 November 1912, then 14 December
  pub february_1700 : HasRuns (labels (Reforming (pos 2_342_032))) (pos 1700) 2 (One (days 1 18))
  pub december_1912 : HasRuns (labels (Reforming (pos 2_419_751))) (pos 1912) 12 (One (days 14 31))
  -- the last day on which a calendar can reform is followed by a date of 120 years later: 5874700 is skipped
  pub january_5874700 : HasRuns (labels (Reforming (pos 2_147_439_588))) (pos 5_874_700) 1 Nothing

-- the month m of the biased year y of the calendar that reforms on the biased day r
reforming : (r y m : ℕ) {s : Runs} → T (leb 784_368_640_634 r) → T (leb r 786_514_249_530) → T (leb 352 y) → T (ltb y 4_294_967_648) → Month m → RunsIn (month_span r y m) s
    → HasRuns (labels (Reforming (day r))) (year y) m s
reforming r y m a b h k v = has_runs (Reforming (day r)) (month_span r y m) (record {
  y = y;
  runs = reforming_runs r (accepts r (leb_yes a) (leb_yes b));
  year_biased = record { from = leb_yes h; to = ltb_yes k };
  year_is = refl;
  is_month = v;
  span = refl;
})

pub known : Known
unfolding month_length
known = record {
  october_1582 = reforming 784_369_109_103 2_147_485_582 10 tt tt tt tt (omega arith, omega arith) (two_runs (ltb_yes tt) (ltb_yes tt));
  september_1752 = reforming 784_369_171_164 2_147_485_752 9 tt tt tt tt (omega arith, omega arith) (two_runs (ltb_yes tt) (ltb_yes tt));
  february_1700 = reforming 784_369_151_974 2_147_485_700 2 tt tt tt tt (omega arith, omega arith) (old_run (ltb_yes tt) (leb_yes tt));
  december_1912 = reforming 784_369_229_693 2_147_485_912 12 tt tt tt tt (omega arith, omega arith) (new_run (ltb_yes tt) (leb_yes tt));
  january_5874700 = reforming 786_514_249_530 2_153_358_700 1 tt tt tt tt (omega arith, omega arith) (no_run (leb_yes tt));
}
