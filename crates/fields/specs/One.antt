-- The promise allows one answer.
-- Assumes nothing.
use Rattle.std.specs.Prelude.{◌≡◌, Bool}
use Rattle.whole.specs.One.{whether_one}
use Rattle.fields.specs.declared.Fields.{Fields}
use Rattle.fields.specs.Promise.{IsSame}

pub same_one : (a b : Fields) (p q : Bool) → IsSame a b p → IsSame a b q → p ≡ q
same_one a b = whether_one (a ≡ b)
