-- `explaining::picture::put_picture` meets its promise.
use Prim.Native.Nat.{◌+◌}
use Rattle.whole.specs.Text.{bytes}
use native.Mathlib.Omega.{arith}
use Rattle.explaining.specs.Laws.{spaces_long, shown_long, picture_put}
use Rattle.explaining.proofs.picture.put_picture.Goals as goal

pub put_shown-second-requires : goal.put_shown-second-requires
put_shown-second-requires c = omega (arith, spaces_long 4)

pub put_byte-third-requires : goal.put_byte-third-requires
put_byte-third-requires c = omega (arith, spaces_long 4, shown_long c.args.text.now)

pub put_spaces-fourth-requires : goal.put_spaces-fourth-requires
put_spaces-fourth-requires c = omega (arith, spaces_long 4, shown_long c.args.text.now)

pub put_text-requires : goal.put_text-requires
put_text-requires c = omega (arith, spaces_long 4, shown_long c.args.text.now, spaces_long (4 + c.args.place))

pub returns : goal.returns
unfolding bytes
returns c = picture_put _ _ c.requires c.put_spaces-first.ensures c.put_shown-second.ensures c.put_byte-third.ensures c.put_spaces-fourth.ensures c.put_text.ensures
