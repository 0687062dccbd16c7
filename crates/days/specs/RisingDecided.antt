-- What is decided of labels: which of two is earlier; whether a day of a timeline that rises bears one, and whether it is skipped. Some day is of an
-- earlier year than a label, and some day of a later one: the search goes day by day from the one to the other, and finds the days of a year too.
-- Assumes nothing.
use Rattle.std.specs.Prelude.{◌⊎◌}

-- P holds, or it doesn't
abbrev pub Decided : Type 0 → Type 0
Decided P = P ⊎ (¬ P)
