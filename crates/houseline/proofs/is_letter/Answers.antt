-- `houseline::is_letter` meets its promise.
use Rattle.std.specs.Prelude.{◌≡◌}
use native.Mathlib.Omega.{arith}
use Rattle.houseline.specs.Form.{digit, capital, underscore}
use Rattle.houseline.proofs.is_letter.Goals as goal

pub returns-in-48-to-57 : goal.returns-in-48-to-57
returns-in-48-to-57 c = let e : c.args.b ≡ 95 = omega arith in rw e underscore

pub returns-in-48-to-57-2 : goal.returns-in-48-to-57-2
returns-in-48-to-57-2 c = digit (record { low = omega arith; high = omega arith })

pub returns-in-48-to-57-3 : goal.returns-in-48-to-57-3
returns-in-48-to-57-3 c = capital (omega arith) (omega arith)
