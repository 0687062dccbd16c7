-- What the walkers promise: the rows of the table of refusals that each call can meet, in the table's order, and then its answer and the
-- walker after it.
use Rattle.std.specs.Prelude.{◌≡◌, Bool, true, ℕ, pos, Result, Ok, Err}
use Rattle.calendar.specs.declared.Date.{Date}
use Rattle.calendar.specs.Calendars.{IsRecord, Genuine}
use Rattle.calendar.specs.Rows.{Unless, If}
use Rattle.calendar.specs.Promise.{refused, made_up}
use Rattle.ways.specs.declared.Kind.{Kind}
use Rattle.ways.specs.Promise.{toward, gives, EndedAt, holds, FlagAt}
use Rattle.walker.specs.declared.Walker.{Walker}
use Rattle.walker.specs.declared.Moved.{Moved}
use Rattle.refusals.specs.declared.Refusal.{Refusal}

-- ---- Genuine walkers

-- a walker is genuine if its date is, and its flag is one that its day can have; any other is made up
pub record GenuineWalker (w : Walker) : Type 0 where
  pub date_genuine : Genuine w.date
  pub flag_is : FlagAt w.kind w.date.jdn w.ended

-- ---- The calls
abbrev pub walker : Kind → Date → Bool → Walker
walker k d e = record { kind = k; date = d; ended = e }

pub data Made (k : Kind) (d : Date) : Result Walker Refusal → Type 0 where
  made : {e : Bool} → EndedAt (gives k d.jdn) e → Made k d (Ok (walker k d e))

-- later, earlier, and_later, and_earlier: 16, or the walker
abbrev pub Makes : Kind → Date → Result Walker Refusal → Type 0
Makes k d = Unless (Genuine d) (Err made_up) (Made k d)

-- an answer, and the walker after it
abbrev pub moved : Result Date Refusal → Walker → Moved
moved a w = record { answer = a; walker = w }

-- a refusal, with the walker as it was
abbrev pub unmoved : ℕ → Walker → Moved
unmoved n w = moved (refused n (pos 0)) w

-- the record of the day to give, and the walker that has given it
pub data Moves (w : Walker) : Moved → Type 0 where
  moves : {d h : Date} {e : Bool} → IsRecord w.date.calendar (gives w.kind w.date.jdn) d
      → EndedAt (toward w.kind (gives w.kind w.date.jdn)) e
      → IsRecord w.date.calendar (holds w.kind e (gives w.kind w.date.jdn)) h → Moves w (moved (Ok d) (walker w.kind h e))

-- stepped, step: 16, 15, or the record; and the walker after it
abbrev pub Steps : Walker → Moved → Type 0
Steps w = Unless (GenuineWalker w) (unmoved 16 w) (If (w.ended ≡ true) (unmoved 15 w) (Moves w))
