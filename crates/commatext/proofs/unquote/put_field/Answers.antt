-- `commatext::unquote::put_field` meets its promise.
use Rattle.commatext.specs.UnquoteLaws.{puts_none}
use Rattle.commatext.proofs.unquote.put_field.Goals as goal

pub returns-then-field-eq0 : goal.returns-then-field-eq0
returns-then-field-eq0 c = puts_none c.if-field-eq0.true
