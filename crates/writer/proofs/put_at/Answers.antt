-- `writer::put_at` meets its promise: there is room for the number and it is put there, or the buffer is left.
use Rattle.writer.specs.Laws.{signed_wrote, signed_left}
use Rattle.writer.proofs.put_at.Goals as goal

pub returns-then-has_room : goal.returns-then-has_room
returns-then-has_room c = signed_wrote c.args.negative _ _ _ _ _ c.width-k.ensures.0 c.signed_width-size.ensures.0 c.has_room.ensures c.if-has_room.true c.put_signed.ensures

pub returns-else-has_room : goal.returns-else-has_room
returns-else-has_room c = signed_left c.args.negative _ _ _ _ _ c.width-k.ensures.0 c.signed_width-size.ensures.0 c.has_room.ensures c.if-has_room.false c.refusal_with.ensures
