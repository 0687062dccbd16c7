-- `catalogue::house_calendar` meets its promise.
use Rattle.catalogue.proofs.Laws.{house_accepted, house_refused}
use mir.Facts.{to_z-of_z}
use mir.Syntax.{w32}
use Rattle.catalogue.proofs.house_calendar.Goals as goal

pub returns-in-Ok : goal.returns-in-Ok
returns-in-Ok c = house_accepted (to_z-of_z {w = w32} c.ranges.r) c.in-Ok.ensures

pub returns-in-Err : goal.returns-in-Err
returns-in-Err c = house_refused (to_z-of_z {w = w32} c.ranges.r) c.in-Err.ensures c.refusal_at.ensures
