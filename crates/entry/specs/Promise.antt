-- What `parts_of` and `line_answer` promise: the name and the text of a line, and the answer to it by these. What a name comes to is given: N.
-- Assumes nothing.
use Rattle.std.specs.Prelude.{ℕ, ◌≤◌, ◌<◌, List, length, take, drop, pos, Result, Ok, Err}
use Rattle.calendar.specs.declared.Calendar.{Calendar}
use Rattle.refusals.specs.declared.Refusal.{Refusal}
use Rattle.calendar.specs.Rows.{If}
use Rattle.calendar.specs.Promise.{refusal}
use Rattle.dateparse.specs.Promise.{ParseDate}
use Rattle.entry.specs.declared.Parts.{Parts}
use Rattle.entry.specs.Entry.{longest_entry, Entry}
use Rattle.calendar.specs.declared.Date.{Date}

-- where the name of the line l ends, and where its text begins
pub record IsParted (l : List ℕ) (p : Parts) : Type 0 where
  pub entry : Entry l (take p.name_end l) (drop p.text_from l)
  pub name_inside : p.name_end ≤ length l
  pub text_inside : p.text_from ≤ length l

-- the answer to each name: its calendar, or its refusal
abbrev pub Naming : Type 1
Naming = List ℕ → Result Calendar Refusal → Type 0

pub data ByEntry (N : Naming) (l : List ℕ) : Result Date Refusal → Type 0 where
  no_name : {name text : List ℕ} {why : Refusal} → Entry l name text → N name (Err why) → ByEntry N l (Err why)
  by_text : {name text : List ℕ} {c : Calendar} {a : Result Date Refusal} → Entry l name text → N name (Ok c) → ParseDate c text a → ByEntry N l a

-- 20; then 19; then what the text comes to
abbrev pub LineAnswer : Naming → List ℕ → Result Date Refusal → Type 0
LineAnswer N l = If (longest_entry < length l) (Err (refusal 20 (pos 0))) (ByEntry N l)
