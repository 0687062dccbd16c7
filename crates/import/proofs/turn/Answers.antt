-- `import::turn` is safe: what is read lies in the block, after what is kept.
use Rattle.std.proofs.Common.{arith}
use Rattle.importrun.specs.Laws.{reads_fit}
use Rattle.import.proofs.turn.Goals as goal

pub read_after-got-requires : goal.read_after-got-requires
read_after-got-requires c = omega (arith, c.room.ensures, c.kept.ensures, reads_fit c.args.run.state c.write-written.result, c.fits-block)
