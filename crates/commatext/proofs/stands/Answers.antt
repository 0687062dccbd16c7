-- `commatext::stands` meets its promise.
use Rattle.commatext.specs.Grammar.{QuotedByte}
use Rattle.commatext.specs.Private.{Tells}
use Rattle.commatext.specs.Laws.{tells_yes, tells_no, stands_text, stands_quoted, stands_not, not_quoted}
use Rattle.commatext.proofs.stands.Goals as goal

pub returns-then-is_text : goal.returns-then-is_text
returns-then-is_text c = Tells.yes (stands_text _ c.args.quoted (tells_yes c.is_text.ensures c.if-is_text.true))

pub returns-then-b-eq44 : goal.returns-then-b-eq44
returns-then-b-eq44 c = Tells.yes (stands_quoted _ _ c.if-quoted.true (QuotedByte.a_comma c.if-b-eq44.true))

pub returns-then-b-eq13 : goal.returns-then-b-eq13
returns-then-b-eq13 c = Tells.yes (stands_quoted _ _ c.if-quoted.true (QuotedByte.a_return c.if-b-eq13.true))

pub returns-then-b-eq10 : goal.returns-then-b-eq10
returns-then-b-eq10 c = Tells.yes (stands_quoted _ _ c.if-quoted.true (QuotedByte.a_feed c.if-b-eq10.true))

pub returns-then-quoted : goal.returns-then-quoted
returns-then-quoted c = Tells.no (stands_not _ _ c.if-quoted.true (not_quoted (tells_no c.is_text.ensures c.if-is_text.false) c.if-b-eq44.false c.if-b-eq13.false c.if-b-eq10.false))
