-- `calendar::record::label_place` meets its promise.
use Rattle.calendar.proofs.record.label_place.Goals as goal

pub plain_label-requires : goal.plain_label-requires
plain_label-requires c = c.requires.0

pub later_label-requires : goal.later_label-requires
later_label-requires c = (c.requires.1, c.in-None.ensures)

pub returns-in-Some : goal.returns-in-Some
returns-in-Some c = c.in-Some.ensures
