-- `commatext::read_record` meets its promise.
use native.Mathlib.Omega.{arith}
use Rattle.commatext.specs.Laws.{at_start}
use Rattle.commatext.specs.UnquoteLaws.{pair_room, the_pair, the_usual, scans_usual, scans_any, scans_other, scans_stops, scans_undecided}
use Rattle.commatext.proofs.read_record.Goals as goal

pub put_usual_line-size-requires : goal.put_usual_line-size-requires
put_usual_line-size-requires c =
    let room = pair_room (the_usual c.in-Some.ensures) in
    (room.0, room.1, omega (arith, room.2))

pub returns-in-Some : goal.returns-in-Some
returns-in-Some c = scans_usual c.in-Some.ensures c.put_usual_line-size.ensures

pub outside_quotes-requires : goal.outside_quotes-requires
outside_quotes-requires c = at_start _

pub put_line-size-requires : goal.put_line-size-requires
put_line-size-requires c =
    let room = pair_room (the_pair c.in-Pair.ensures) in
    (room.0, room.1, omega (arith, room.2))

pub returns-in-Pair : goal.returns-in-Pair
returns-in-Pair c = scans_any c.in-Pair.ensures c.put_line-size.ensures

pub returns-in-Other : goal.returns-in-Other
returns-in-Other c = scans_other c.in-Other.ensures

pub returns-in-Stops : goal.returns-in-Stops
returns-in-Stops c = scans_stops c.in-Stops.ensures

pub returns-in-Undecided : goal.returns-in-Undecided
returns-in-Undecided c = scans_undecided c.in-Undecided.ensures
