-- `nametable::Names::enter` meets its promise.
use Rattle.std.proofs.Common.{◌∙◌, to_z-of_z}
use Rattle.nametable.specs.Laws.{enters_so}
use Rattle.nametable.specs.Promise.{no_slot, no_room}
use mir.Syntax.{w32}
use Rattle.nametable.proofs.Names.enter.Goals as goal

pub returns-then-k-ge-LINES : goal.returns-then-k-ge-LINES
returns-then-k-ge-LINES c = no_slot c.if-k-ge-LINES.true

pub returns-then-name-gt-NAME : goal.returns-then-name-gt-NAME
returns-then-name-gt-NAME c = no_room c.if-name-gt-NAME.true

pub returns : goal.returns
returns c = enters_so _ c.if-k-ge-LINES.false c.if-name-gt-NAME.false c.put_name.ensures c.link.ensures c.bucket_of.ensures.0 (c.raised.ensures ∙ to_z-of_z {w = w32} c.ranges.number)
