-- What the functions promise, over any contents of the lent memory m and any count n of lines.
-- Assumes nothing.
use Rattle.std.specs.Prelude.{ℕ, ◌+◌, ◌^◌, ◌≤◌, ◌<◌, ◌≡◌, Bool, true, false, List, ◌⊎◌, ℤ, pos, Result, Ok, Err, Some, None}
use Rattle.whole.specs.Promise.{unbias}
use Rattle.days.specs.DayByDay.{AcceptedReformation}
use Rattle.refusals.specs.declared.Refusal.{Refusal}
use Rattle.refusals.specs.Promise.{refusal}
use Rattle.calendar.specs.Rows.{Unless, Answers}
use Rattle.calendar.specs.declared.Calendar.TheVariants.{Reforming}
use Rattle.ncal.specs.Promise.{Known, OfRow, unknown_name_value}
use Rattle.nametable.specs.Limits.{most_lines}
use Rattle.nametable.specs.Hash.{bucket_of_value}
use Rattle.nametable.specs.Promise.{memory, Finds, entered, linked}
use Rattle.nametable.specs.declared.Names.{Names}
use Rattle.nametable.specs.Houses.{house}
use Rattle.catalogue.specs.Catalogue.{LineMeaning, holds, refuses, OfName, OfLine}
use Rattle.calendar.specs.declared.Calendar.{Calendar}

-- ---- a name is taken or free in the memory

abbrev pub TakenIn : Names → List ℕ → Type 0
TakenIn m s = Known s ⊎ ((z : ℤ) × Finds m s (Some z))

abbrev pub FreeIn : Names → List ℕ → Type 0
FreeIn m s = (¬ Known s) × Finds m s None

abbrev pub IsTaken : Names → List ℕ → Bool → Type 0
IsTaken m s true = TakenIn m s
IsTaken m s false = FreeIn m s

-- ---- add_line: what a line comes to after n lines, and what is in the memory then

pub data CarriesOut (m : Names) (n : ℕ) : LineMeaning → Names → Result ℕ Refusal → Type 0 where
  left_as : {f : Refusal} → CarriesOut m n (refuses f) m (Err f)
  added : {s : List ℕ} {z : ℤ} (d : ℕ) → unbias (2 ^ 31) d ≡ z → CarriesOut m n (holds (house s z)) (memory (entered m.slots n s) (linked m.links n (bucket_of_value s) d)) (Ok (n + 1))

pub data AddsHouse (m : Names) (n : ℕ) (s : List ℕ) (z : ℤ) : Names → Result ℕ Refusal → Type 0 where
  adds_house : {e : LineMeaning} {m' : Names} {a : Result ℕ Refusal} → OfName (TakenIn m) (FreeIn m) (n + 1) s z e → CarriesOut m n e m' a → AddsHouse m n s z m' a

-- a count of more lines than there can be is made up, and refused 16
pub data Adds (m : Names) (n : ℕ) (l : List ℕ) : Names → Result ℕ Refusal → Type 0 where
  made_up : most_lines < n → Adds m n l m (Err (refusal 16 0 (pos 0)))
  adds : {e : LineMeaning} {m' : Names} {a : Result ℕ Refusal} → n ≤ most_lines → OfLine (TakenIn m) (FreeIn m) (n + 1) l e → CarriesOut m n e m' a → Adds m n l m' a

-- ---- named: the calendar that is built in, the one that is held, or 19; 16 where what is held is no reformation, which no catalogue leaves behind

abbrev pub HouseCalendar : ℤ → Result Calendar Refusal → Type 0
HouseCalendar r = Unless (AcceptedReformation r) (Err (refusal 16 0 (pos 0))) (Answers (Ok (Reforming r)))

pub data NamesIn (m : Names) (s : List ℕ) : Result Calendar Refusal → Type 0 where
  built_in : {a : Result Calendar Refusal} → OfRow s a → NamesIn m s a
  held : ¬ Known s → {z : ℤ} {a : Result Calendar Refusal} → Finds m s (Some z) → HouseCalendar z a → NamesIn m s a
  unknown : ¬ Known s → Finds m s None → NamesIn m s unknown_name_value
