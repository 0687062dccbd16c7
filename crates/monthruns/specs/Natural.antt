-- What the private functions say, of days that are biased as naturals.
-- Assumes nothing.
use Rattle.std.specs.Prelude.{ℕ, ◌+◌, ◌-◌, ◌<◌, ◌≤◌, ◌^◌}
use Rattle.days.specs.ClosedRuns.{top}
use Rattle.switches.specs.declared.MonthSpan.{MonthSpan}
use Rattle.months.specs.Natural.{Inside}
use Rattle.monthruns.specs.declared.Run.{Run}
use Rattle.monthruns.specs.declared.Runs.{Runs}
use Rattle.monthruns.specs.declared.Runs.TheVariants.{Nothing, One, Two}

-- the days from a to b, by their days of the month, which count from the day s
abbrev pub run_of : ℕ → ℕ → ℕ → Run
run_of s a b = record { first = a + 1 - s; last = b + 1 - s }

-- the machine has room for them
pub record Few (s a b : ℕ) : Type 0 where
  pub from : s ≤ a
  pub to : a ≤ b
  pub few : b + 1 - s < 2 ^ 32
  pub room : b < top

-- each day from the month's first on, before the first past it, is of the month
abbrev pub AllInside : MonthSpan → Type 0
AllInside s = (k : ℕ) → s.first ≤ k → k < s.past → Inside s k

-- the runs: none; one that is Gregorian, or Julian; or a Julian and a Gregorian one
pub data RunsIn (s : MonthSpan) : Runs → Type 0 where
  no_run : s.past ≤ s.first → RunsIn s Nothing
  new_run : s.first < s.past → s.switch ≤ s.first → RunsIn s (One (run_of s.gregorian s.first (s.past - 1)))
  old_run : s.first < s.past → s.past ≤ s.switch → RunsIn s (One (run_of s.first s.first (s.past - 1)))
  two_runs : s.first < s.switch → s.switch < s.past → RunsIn s (Two (run_of s.first s.first (s.switch - 1)) (run_of s.gregorian s.switch (s.past - 1)))
