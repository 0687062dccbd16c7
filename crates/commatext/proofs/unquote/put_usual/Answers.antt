-- `commatext::unquote::put_usual` meets its promise.
use Rattle.commatext.specs.UnquoteLaws.{usual_quoted}
use Rattle.commatext.proofs.unquote.put_usual.Goals as goal

pub returns-then-field-eq34 : goal.returns-then-field-eq34
returns-then-field-eq34 c = usual_quoted c.requires c.if-field-lt2.false c.if-field-eq34.true c.put_plain-then-field-eq34.ensures
