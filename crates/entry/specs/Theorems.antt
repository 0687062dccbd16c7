-- Demand 3 of a house calendar, by the statement that there is, since a catalogue gives accepted calendars alone. Demand 2 is the contracts of the
-- calls, which speak of every accepted calendar.
-- Assumes nothing.
use Rattle.std.specs.Prelude.{ℕ, ◌<◌, List, length}
use Rattle.calendar.specs.declared.Calendar.{Calendar}
use Rattle.calendar.specs.declared.Calendar.TheVariants.{Reforming}
use Rattle.calendar.specs.Calendars.{timeline}
use Rattle.dateparse.specs.EveryText.{EveryText}
use Rattle.dateparse.specs.Promise.{ParseDate}
use Rattle.dateparse.specs.Theorems.{every_calendar}
use Rattle.nametable.specs.Houses.{House, line_at}
use Rattle.catalogue.specs.Catalogue.{catalogue, Means}
use Rattle.catalogue.proofs.Theorems.{catalogue_accepted}

-- the calendar of line k
abbrev pub calendar_at : List House → ℕ → Calendar
calendar_at hs k = Reforming (line_at hs k).number

pub every_house : {house : List ℕ} {hs : List House} → Means house (catalogue hs) → (k : ℕ) → k < length hs → EveryText (timeline (calendar_at hs k)) (calendar_at hs k) (ParseDate (calendar_at hs k))
every_house {hs = hs} p k h = every_calendar (calendar_at hs k) (catalogue_accepted p k h)
