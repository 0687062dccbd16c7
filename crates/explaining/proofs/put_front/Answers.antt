-- `explaining::put_front` meets its promise.
use mathlib.Core.Path.{refl}
use Rattle.explaining.specs.LineLaws.{puts_told}
use Rattle.explaining.proofs.put_front.Goals as goal

pub returns : goal.returns
returns c = rw c.ok_or.ensures.value (puts_told _ c.copy_text.ensures c.refusal_with.ensures refl)
