-- `swedish::old_label` meets its promise.
use Rattle.days.proofs.ClosedJulian as J
use Rattle.inner.specs.Natural.{biased_day}
use Rattle.swedish.specs.Laws.{labelled_by}
use Rattle.swedish.proofs.old_label.Goals as goal
use Rattle.swedish.proofs.old_label.Goals.{Start}

pub labelled-requires : goal.labelled-requires
labelled-requires c =
    let s = (goal.at.labelled-requires c).Start in
    (s.requires.0, labelled_by J.starts s.args.biased (biased_day s.args.raised) c.julian_place-old.result.year c.julian_place-old.result.ordinal s.requires.1 c.julian_place-old.ensures c.is_julian_leap.ensures)
