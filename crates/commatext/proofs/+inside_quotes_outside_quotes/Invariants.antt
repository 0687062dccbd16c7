-- The cycle of calls of `inside_quotes` and `outside_quotes`. The measure of each is the number of bytes that remain.
use Rattle.std.proofs.Common.{◌+◌, ◌-◌, length}
use Rattle.commatext.proofs.+inside_quotes_outside_quotes.Given as goal

abbrev pub decreases-inside_quotes : goal.decreases-inside_quotes
decreases-inside_quotes l = length l.s.now + 1 - l.at

abbrev pub decreases-outside_quotes : goal.decreases-outside_quotes
decreases-outside_quotes l = length l.s.now + 1 - l.at
