-- `explain::turn` is safe: the room for a read lies in the block.
use Rattle.std.proofs.Common.{arith}
use Rattle.filter.specs.Laws.{room_fits}
use Rattle.explain.proofs.turn.Goals as goal

pub read_some-got-requires : goal.read_some-got-requires
read_some-got-requires c = omega (arith, c.room.ensures, room_fits c.args.state.phase c.write-written.result, c.fits-block)
