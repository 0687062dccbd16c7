-- What `put_line` promises to write: a line with its newline, no longer than the longest one.
use Rattle.std.specs.Prelude.{ℕ, ◌≤◌, List, length, Result}
use Rattle.linetext.specs.Line.{longest_line, Ended}
use Rattle.refusals.specs.declared.Refusal.{Refusal}
use Rattle.linetext.specs.declared.LineNumbers.{LineNumbers}

pub record LineOut (l : Result LineNumbers Refusal) (t : List ℕ) : Type 0 where
  pub is : Ended l t
  pub short : length t ≤ longest_line
