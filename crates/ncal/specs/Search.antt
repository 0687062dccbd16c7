-- Row after row the first with a name, and the rows of one length.
-- Assumes nothing.
use Rattle.std.specs.Prelude.{cond, List, [], ◌∷◌, ℕ, eqb, length, Option, Some, None}
use Rattle.calendar.specs.declared.Calendar.{Calendar}
use Rattle.ncal.specs.Table.{NameRow}
use Rattle.ncal.specs.Every.{eq_list}

-- one row more: what was found before it stays
unfoldable pub or_row : List ℕ → Option Calendar → NameRow → Option Calendar
or_row s (Some c) r = Some c
or_row s None r = cond (eq_list s r.name) (Some r.calendar) None

abbrev pub or_rows : List ℕ → Option Calendar → List NameRow → Option Calendar
or_rows s f [] = f
or_rows s f (r ∷ rows) = or_rows s (or_row s f r) rows

-- what the name s is among the rows
abbrev pub among : List ℕ → List NameRow → Option Calendar
among s rows = or_rows s None rows

-- the rows whose name has n letters
abbrev pub of_length : ℕ → List NameRow → List NameRow
of_length n [] = []
of_length n (r ∷ rows) = cond (eqb (length r.name) n) (r ∷ of_length n rows) (of_length n rows)
