-- `expected::year_digits` meets its promise.
use Prim.Native.Nat.{ℕ, ◌<◌}
use mathlib.Core.Path.{◌≡◌, sym, ◌∙◌, ap, ap₂, subst}
use mathlib.Core.Bool.{Bool, true, false, cond}
use lib.IntN.{nat_abs}
use mir.Syntax.{w64}
use mir.Val.{to_z, of_z}
use mir.Facts.{to_z-of_z}
use Rattle.whole.specs.Promise.{is_negative_value}
use Rattle.expected.specs.Numbers.{digits_left_value}
use Rattle.expected.specs.Fronts.{expects}
use Rattle.expected.specs.Faults.{year_small, limit_small}
use borrow.Author.Rules.{sfits_of}
use mir.Syntax.{w32}
use Rattle.expected.proofs.year_digits.Goals as goal
use Rattle.expected.proofs.year_digits.Goals.{After-magnitude}

year_is : (c : After-magnitude) → to_z w64 (of_z w64 c.widened-y.result) ≡ c.args.year
year_is c = to_z-of_z {w = w64} (sfits_of c.widened-y.type_inv) ∙ c.widened-y.ensures ∙ to_z-of_z {w = w32} c.ranges.year

magnitude_is : (c : After-magnitude) → c.magnitude.result ≡ nat_abs c.args.year
magnitude_is c = c.magnitude.ensures ∙ ap nat_abs (year_is c)

negative_is : (c : After-magnitude) → c.is_negative.result ≡ is_negative_value c.args.year
negative_is c = c.is_negative.ensures ∙ ap is_negative_value (year_is c)

pub digits_left-requires : goal.digits_left-requires
digits_left-requires c = (subst (λ (k : ℕ). k < 4_294_967_296) (sym c.year_limit.ensures) (limit_small c.is_negative.result), subst (λ (k : ℕ). k < 4_294_967_296) (sym (magnitude_is c)) (year_small c.args.year c.ranges.year))

pub returns : goal.returns
returns c =
    let m = (goal.at.returns c).After-magnitude in
    ap (λ (k : ℕ). expects k true false false) (c.digits_left.ensures ∙ ap₂ digits_left_value (m.year_limit.ensures ∙ ap (λ (t : Bool). cond t 2_147_483_648 2_147_483_647) (negative_is m)) (magnitude_is m))
