-- `weekday::for_jdn` meets its promise.
use mathlib.Core.Path.{sym, ◌∙◌, ap}
use mir.Facts.{to_z-of_z}
use Rattle.days.specs.DayByDay.{weekday}
use Rattle.days.proofs.ClosedWeekdays.{weekday_is}
use Rattle.weekday.proofs.for_jdn.Goals as goal

pub returns : goal.returns
returns c = sym (weekday_is c.raised.result) ∙ ap weekday (c.raised.ensures ∙ to_z-of_z c.ranges.jdn)
