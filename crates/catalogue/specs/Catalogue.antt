-- A catalogue of house calendars, as the request M-100 has it. What the form of a line is stands in `Form` of the crate `houseline`. Nothing here
-- reads.
-- Assumes nothing.
use Rattle.std.specs.Prelude.{ℕ, ◌+◌, ◌<◌, ◌≡◌, List, [], ◌∷◌, ◌++◌, ◌⊎◌, length, ℤ, pos, Result, Ok}
use Rattle.days.specs.DayByDay.{Is32Bit}
use Rattle.days.specs.ReformationRules.{Outcome, accepted, refused_1, refused_2, Judged}
use Rattle.refusals.specs.declared.Refusal.{Refusal}
use Rattle.refusals.specs.Promise.{refusal}
use Rattle.calendar.specs.Rows.{Row, Unless, If}
use Rattle.calendar.specs.declared.Calendar.TheVariants.{Reforming}
use Rattle.ncal.specs.Promise.{Known, OfRow, unknown_name_value}
use Rattle.textlines.specs.Lines.{Lines}
use Rattle.nametable.specs.Limits.{most_lines}
use Rattle.nametable.specs.Houses.{House, house, name_at, line_at}
use Rattle.houseline.specs.Form.{Form}
use Rattle.houseline.specs.Promise.{LeavesAfter}
use Rattle.calendar.specs.declared.Calendar.{Calendar}

-- ---- a line: the calendar that it holds, or its refusal. n is its number, from 1

pub data LineMeaning : Type 0 where
  holds : House → LineMeaning
  refuses : Refusal → LineMeaning

abbrev pub refused : ℕ → ℕ → LineMeaning
refused number n = refuses (refusal number n (pos 0))

-- 1, 2, or the calendar
abbrev pub judged_is : ℕ → List ℕ → ℤ → Outcome → LineMeaning
judged_is n s r accepted = holds (house s r)
judged_is n s r refused_1 = refuses (refusal 1 n r)
judged_is n s r refused_2 = refuses (refusal 2 n r)

pub data OfReformation (n : ℕ) (s : List ℕ) (r : ℤ) : LineMeaning → Type 0 where
  of_reformation : {o : Outcome} → Judged r o → OfReformation n s r (judged_is n s r o)

-- 23 and 24 before it; which names are taken and which are free is given
abbrev pub OfName : (List ℕ → Type 0) → (List ℕ → Type 0) → ℕ → List ℕ → ℤ → LineMeaning → Type 0
OfName Taken Free n s r = Row (Taken s) (Free s) (refused 23 n) (If (most_lines < n) (refused 24 n) (OfReformation n s r))

-- 11 and 28 before that, of a line with the name s and the number z: where z is outside 32 bits, with the place at which it leaves them, counted in the
-- line, as the value
pub data OfForm (Taken Free : List ℕ → Type 0) (n : ℕ) (l : List ℕ) : LineMeaning → Type 0 where
  leaves : {s : List ℕ} {z : ℤ} {f : Refusal} → Form l s z → LeavesAfter l (length s) f → OfForm Taken Free n l (refuses (refusal f.number n (pos f.place)))
  of_form : {s : List ℕ} {z : ℤ} {e : LineMeaning} → Form l s z → Is32Bit z → OfName Taken Free n s z e → OfForm Taken Free n l e

-- and 22 before all
abbrev pub Formed : List ℕ → Type 0
Formed l = (s : List ℕ) × (z : ℤ) × Form l s z

abbrev pub OfLine : (List ℕ → Type 0) → (List ℕ → Type 0) → ℕ → List ℕ → LineMeaning → Type 0
OfLine Taken Free n l = Unless (Formed l) (refused 22 n) (OfForm Taken Free n l)

-- ---- a line after lines that hold the calendars hs: a name is taken that is built in, or that one of them has

abbrev pub Named : List House → List ℕ → Type 0
Named hs s = (k : ℕ) × (k < length hs) × (name_at hs k ≡ s)

abbrev pub Taken : List House → List ℕ → Type 0
Taken hs s = Known s ⊎ Named hs s

abbrev pub LineMeans : List House → List ℕ → LineMeaning → Type 0
LineMeans hs l = OfLine (Taken hs) (λ s. ¬ Taken hs s) (length hs + 1) l

-- ---- lines, each of which holds a calendar

pub data Hold : List (List ℕ) → List House → Type 0 where
  none : Hold [] []
  more : {ls : List (List ℕ)} {hs : List House} {l : List ℕ} {h : House} → Hold ls hs → LineMeans hs l (holds h) → Hold (ls ++ (l ∷ [])) (hs ++ (h ∷ []))

-- ---- what a file means: the calendars of its lines, or the refusal of the first line that is refused

pub data Meaning : Type 0 where
  catalogue : List House → Meaning
  refused_by : Refusal → Meaning

pub data Means (input : List ℕ) : Meaning → Type 0 where
  all_hold : {ls : List (List ℕ)} {hs : List House} → Lines input ls → Hold ls hs → Means input (catalogue hs)
  first_refused : {ls : List (List ℕ)} (rest : List (List ℕ)) {hs : List House} {l : List ℕ} {f : Refusal}
      → Lines input (ls ++ (l ∷ rest)) → Hold ls hs → LineMeans hs l (refuses f) → Means input (refused_by f)

-- ---- a name, with a catalogue: the calendar that is built in, or the house calendar, or 19

pub data NamesWith (hs : List House) (s : List ℕ) : Result Calendar Refusal → Type 0 where
  built_in : {a : Result Calendar Refusal} → OfRow s a → NamesWith hs s a
  of_house : ¬ Known s → (k : ℕ) → k < length hs → name_at hs k ≡ s → NamesWith hs s (Ok (Reforming (line_at hs k).number))
  unknown : ¬ Known s → ¬ Named hs s → NamesWith hs s unknown_name_value
