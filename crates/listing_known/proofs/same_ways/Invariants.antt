-- Each way counts at most once.
use Rattle.std.proofs.Common.{◌≤◌}
use Rattle.listing_known.proofs.same_ways.Given as goal

abbrev pub invariant-loop-cut : goal.invariant-loop-cut
invariant-loop-cut l = l.same ≤ l.cut
