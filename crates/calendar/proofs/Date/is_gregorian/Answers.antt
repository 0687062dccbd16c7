-- `calendar::Date::is_gregorian` meets its promise: the style of a genuine record is that of its day.
use Rattle.days.specs.DayByDay.{GregorianStyle}
use Rattle.calendar.specs.Laws.{tells_style}
use Rattle.calendar.proofs.Date.is_gregorian.Goals as goal

pub returns : goal.returns
returns c = tells_style GregorianStyle c.has_style.ensures
