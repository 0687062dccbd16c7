-- `importing::take_record` meets its promise.
use native.Mathlib.Omega.{arith}
use Rattle.importing.specs.Promise.{TakesRecord}
use Rattle.importing.specs.Laws.{entry_some, entry_on, miscounted_on, within_text, scans_all, takes_entry, takes_miscounted, takes_stop}
use Rattle.importing.proofs.take_record.Goals as goal

pub put_entry-end-requires : goal.put_entry-end-requires
put_entry-end-requires c = (entry_some (rw c.in-Entry.is at c.read_record.ensures), c.requires.1)

pub overflow_add-result : goal.overflow_add-result
overflow_add-result c = omega (arith, within_text c.args.text.now c.args.at c.requires.0 (entry_on (scans_all c.args.text.now c.args.at (rw c.in-Entry.is at c.read_record.ensures))).0)

pub overflow_add-result-in-Miscounted : goal.overflow_add-result-in-Miscounted
overflow_add-result-in-Miscounted c = omega (arith, within_text c.args.text.now c.args.at c.requires.0 (miscounted_on (scans_all c.args.text.now c.args.at (rw c.in-Miscounted.is at c.read_record.ensures))).0)

pub returns-in-Entry : goal.returns-in-Entry
returns-in-Entry c = takes_entry (scans_all c.args.text.now c.args.at (rw c.in-Entry.is at c.read_record.ensures)) c.put_entry-end.ensures

pub returns-in-Miscounted : goal.returns-in-Miscounted
returns-in-Miscounted c = takes_miscounted (scans_all c.args.text.now c.args.at (rw c.in-Miscounted.is at c.read_record.ensures)) (rw c.later_place.ensures at c.put_fault-end.ensures)

pub returns-in-Stops : goal.returns-in-Stops
returns-in-Stops c = takes_stop (scans_all c.args.text.now c.args.at (rw c.in-Stops.is at c.read_record.ensures)) (rw (c.later_place-in-Stops-2.ensures, c.later_place-in-Stops.ensures) at c.put_fault-end-in-Stops.ensures)

pub returns-in-Undecided : goal.returns-in-Undecided
returns-in-Undecided c = TakesRecord.cut (scans_all c.args.text.now c.args.at (rw c.in-Undecided.is at c.read_record.ensures))
