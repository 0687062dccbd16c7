-- What parse_date and write_date promise.
-- Assumes nothing.
use Rattle.std.specs.Prelude.{cond, List, ℕ, eqb, ℤ, Result, Ok, Err}
use Rattle.days.specs.DayByDay.{Timeline}
use Rattle.calendar.specs.declared.Calendar.{Calendar}
use Rattle.calendar.specs.declared.Date.{Date}
use Rattle.refusals.specs.declared.Refusal.{Refusal}
use Rattle.calendar.specs.Calendars.{timeline, Accepted, Genuine}
use Rattle.calendar.specs.Rows.{Unless}
use Rattle.calendar.specs.Promise.{made_up, YmdIn, OrdinalIn}
use Rattle.writer.specs.Promise.{WriteYmd}
use Rattle.datetext.specs.Grammar.{OrdinalText, YmdText, Fault}

-- the answer of a call without a text, in a text where the field that it is about has the place k. 7 has no field, and keeps place 0
abbrev pub place_of : ℕ → Refusal → Refusal
place_of k f = record { number = f.number; place = cond (eqb f.number 7) f.place k; value = f.value }

abbrev pub placed_at : ℕ → Result Date Refusal → Result Date Refusal
placed_at k (Ok d) = Ok d
placed_at k (Err f) = Err (place_of k f)

-- the first fault of the text; or what the calendar answers to the date that it writes
pub data ByTextIn (t : Timeline) (c : Calendar) (s : List ℕ) : Result Date Refusal → Type 0 where
  by_fault : {f : Refusal} → Fault s f → ByTextIn t c s (Err f)
  by_ordinal : {y : ℤ} {o k : ℕ} {a : Result Date Refusal} → OrdinalText s y o k → OrdinalIn t c y o a → ByTextIn t c s (placed_at k a)
  by_ymd : {y : ℤ} {m d k : ℕ} {a : Result Date Refusal} → YmdText s y m d k → YmdIn t c y m d a → ByTextIn t c s (placed_at k a)

abbrev pub ByText : Calendar → List ℕ → Result Date Refusal → Type 0
ByText c = ByTextIn (timeline c) c

-- parse_date: 16; then the text; then the date
abbrev pub ParseDate : Calendar → List ℕ → Result Date Refusal → Type 0
ParseDate c s = Unless (Accepted c) (Err made_up) (ByText c s)

-- write_date, of a buffer b: what it holds then, and the answer. 16 leaves it as it was; then 18; then the text stands at its front
abbrev pub WriteDate : Date → List ℕ → List ℕ × (Result ℕ Refusal) → Type 0
WriteDate d b = Unless (Genuine d) (b, Err made_up) (λ (r : List ℕ × (Result ℕ Refusal)). WriteYmd d.year d.month d.day b r.0 r.1)
