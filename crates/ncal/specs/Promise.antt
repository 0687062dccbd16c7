-- What is promised of a name: the calendar of its row, or that there is none, which is 19.
-- Assumes nothing.
use mathlib.Core.List.{List, Memᴰ}
use Rattle.std.specs.Prelude.{ℕ, pos, Option, Some, None, Result, Ok, Err}
use Rattle.calendar.specs.Rows.{Unless}
use Rattle.calendar.specs.Promise.{refusal}
use Rattle.calendar.specs.declared.Calendar.{Calendar}
use Rattle.ncal.specs.Table.{row, table}
use Rattle.refusals.specs.declared.Refusal.{Refusal}

-- the table has a row with this name and this calendar
abbrev pub InTable : List ℕ → Calendar → Type 0
InTable s c = Memᴰ (row s c) table

-- some row has the name
abbrev pub Known : List ℕ → Type 0
Known s = (c : Calendar) × InTable s c

-- look_up: the calendar of the row with the name, or that no row has it
pub data FoundAs (s : List ℕ) : Option Calendar → Type 0 where
  in_table : {c : Calendar} → InTable s c → FoundAs s (Some c)
  in_no_row : ¬ Known s → FoundAs s None

-- the calendar of the row with the name
pub data OfRow (s : List ℕ) : Result Calendar Refusal → Type 0 where
  of_row : {c : Calendar} → InTable s c → OfRow s (Ok c)

abbrev pub unknown_name_value : Result Calendar Refusal
unknown_name_value = Err (refusal 19 (pos 0))

-- named: 19, or the calendar
abbrev pub NamesCalendar : List ℕ → Result Calendar Refusal → Type 0
NamesCalendar s = Unless (Known s) unknown_name_value (OfRow s)
