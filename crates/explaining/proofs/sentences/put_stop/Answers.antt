-- `explaining::sentences::put_stop` meets its promise.
use mathlib.Core.Path.{refl}
use native.Mathlib.Omega.{arith}
use Rattle.whole.specs.Text.{bytes}
use Rattle.explaining.specs.Laws.{is_as, is_then, is_put}
use Rattle.explaining.proofs.sentences.put_stop.Goals as goal

pub returns : goal.returns
unfolding bytes
returns c = is_as refl (omega (arith, c.requires)) (is_then (is_put 2 (omega arith) c.put_text-next.ensures) c.put_picture.ensures (omega (arith, c.requires)))
