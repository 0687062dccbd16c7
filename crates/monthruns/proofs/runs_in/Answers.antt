-- `monthruns::runs_in` meets its promise.
use native.Mathlib.Omega.{arith}
use Rattle.monthruns.specs.Natural.{no_run, new_run, old_run, two_runs}
use Rattle.monthruns.specs.Laws.{old_few, new_few}
use Rattle.monthruns.proofs.runs_in.Goals as goal

pub returns-then-s : goal.returns-then-s
returns-then-s c = no_run (omega arith)

pub run_between-requires : goal.run_between-requires
run_between-requires c = new_few c.args.s c.requires c.args.s.first (omega arith) (omega arith) (omega arith)

pub returns-then-s-2 : goal.returns-then-s-2
returns-then-s-2 c = rw c.run_between.ensures (new_run (omega arith) (omega arith))

pub run_between-requires-then-s-3 : goal.run_between-requires-then-s-3
run_between-requires-then-s-3 c = old_few c.args.s c.requires c.args.s.past (omega arith) (omega arith)

pub returns-then-s-3 : goal.returns-then-s-3
returns-then-s-3 c = rw c.run_between-then-s-3.ensures (old_run (omega arith) (omega arith))

pub run_between-requires-2 : goal.run_between-requires-2
run_between-requires-2 c = old_few c.args.s c.requires c.args.s.switch (omega arith) (omega arith)

pub run_between-requires-3 : goal.run_between-requires-3
run_between-requires-3 c = new_few c.args.s c.requires c.args.s.switch (omega arith) (omega arith) (omega arith)

pub returns : goal.returns
returns c = rw (c.run_between-2.ensures, c.run_between-3.ensures) (two_runs (omega arith) (omega arith))
