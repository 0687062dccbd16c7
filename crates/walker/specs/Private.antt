-- What a private function says: the records of two days, and the walker that holds the second.
use Rattle.std.specs.Prelude.{Ok}
use Rattle.calendar.specs.declared.Calendar.{Calendar}
use Rattle.calendar.specs.declared.Date.{Date}
use Rattle.calendar.specs.Calendars.{IsRecord}
use Rattle.ways.specs.declared.Given.{Given}
use Rattle.ways.specs.declared.Kind.{Kind}
use Rattle.walker.specs.declared.Moved.{Moved}
use Rattle.walker.specs.Promise.{walker, moved}

-- the record of the day to give is given, and the walker holds that of the day to hold
pub data Gave (k : Kind) (c : Calendar) (s : Given) : Moved → Type 0 where
  gave : {d h : Date} → IsRecord c s.given d → IsRecord c s.held h → Gave k c s (moved (Ok d) (walker k h s.ended))
