-- `calendar::is_usual` meets its promise: its fields make up the date.
use mir.Facts.{to_z-of_z}
use Rattle.calendar.specs.One.{whole}
use Rattle.calendar.proofs.is_usual.Goals as goal

pub returns : goal.returns
unfolding whole
returns c = rw (to_z-of_z c.ranges.year, to_z-of_z c.ranges.jdn) at c.is_usual_date.ensures
