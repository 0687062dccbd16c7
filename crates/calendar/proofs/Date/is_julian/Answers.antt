-- `calendar::Date::is_julian` meets its promise: the style of a genuine record is that of its day.
use Rattle.days.specs.DayByDay.{JulianStyle}
use Rattle.calendar.specs.Laws.{tells_style}
use Rattle.calendar.proofs.Date.is_julian.Goals as goal

pub returns : goal.returns
returns c = tells_style JulianStyle c.has_style.ensures
