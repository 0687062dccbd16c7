-- What is promised: whether two dates have the same fields.
-- Assumes nothing.
use Rattle.std.specs.Prelude.{◌≡◌, Bool}
use Rattle.whole.specs.Whether.{Whether}
use Rattle.fields.specs.declared.Fields.{Fields}

abbrev pub IsSame : Fields → Fields → Bool → Type 0
IsSame a b = Whether (a ≡ b)
