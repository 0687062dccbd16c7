-- `commatext::other_byte` meets its promise.
use Rattle.commatext.specs.Private.{OtherAt}
use Rattle.commatext.proofs.other_byte.Goals as goal

pub returns-then-at-ge-LONGEST_RECORD : goal.returns-then-at-ge-LONGEST_RECORD
returns-then-at-ge-LONGEST_RECORD c = OtherAt.long c.if-at-ge-LONGEST_RECORD.true

pub returns : goal.returns
returns c = OtherAt.short c.if-at-ge-LONGEST_RECORD.false
