-- `unixtime::unix2jdn` meets its promise.
use mir.Facts.{to_z-of_z}
use Rattle.unixtime.specs.Laws.{day_row}
use Rattle.unixtime.proofs.unix2jdn.Goals as goal

pub returns : goal.returns
returns c =
    let t = to_z-of_z c.ranges.t in
    rw (c.ok_or.ensures.value, c.refusal_of.ensures, t) (day_row (rw t at c.day_second.ensures))
