-- `explaining::choices::put_choices` meets its promise.
use Rattle.whole.specs.Text.{bytes}
use Rattle.explaining.specs.Laws.{choices_put}
use mathlib.Core.Path.{refl}
use borrow.Author.Tests.{lt-ltb, le-ltb}
use Rattle.explaining.proofs.choices.put_choices.Goals.{then-digits, else-digits, then-signs, else-signs}
use Rattle.explaining.proofs.choices.put_choices.Goals as goal

pub returns : goal.returns
unfolding bytes
returns c = choices_put c.args.e c.requires
    (elim c.if-digits.branch [ then-digits w ↦ rw (w.signs-is, lt-ltb 0 c.args.e.digits w.if-digits.true) refl | else-digits w ↦ rw (w.signs-is, le-ltb 0 c.args.e.digits w.if-digits.false) refl ])
    (elim c.if-signs.branch [ then-signs w ↦ rw (w.put_further-is, w.if-signs.true) refl | else-signs w ↦ rw (w.put_further-is, w.if-signs.false) refl ])
    c.put_digits-first.ensures c.put_further-second.ensures c.put_further-third.ensures c.put_further.ensures
