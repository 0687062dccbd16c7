-- What the signed edge promises: a whole number as a natural number and a bias, the sign of a number, the number of a sign and a magnitude, and a number
-- brought into 32 bits.
-- Assumes nothing.
use Rattle.std.specs.Prelude.{Bool, true, false, ℕ, ℤ, pos, negsuc, neg_ℤ, ◌-ℤ◌, ◌<ℤ◌, Result, Ok, Err}
use Rattle.std.specs.Int.{w32}
use Rattle.std.proofs.Common.{SFits}
use Rattle.whole.specs.declared.Outside.{Outside}
use Rattle.whole.specs.declared.Outside.TheVariants as Outside'

-- k − bias
abbrev pub unbias : ℕ → ℕ → ℤ
unbias bias k = pos k -ℤ pos bias

abbrev pub is_negative_value : ℤ → Bool
is_negative_value (pos n) = false
is_negative_value (negsuc n) = true

unfoldable pub signed_of : Bool → ℕ → ℤ
signed_of true n = neg_ℤ (pos n)
signed_of false n = pos n

-- 32 bits hold the numbers -2147483648 to 2147483647
pub data Narrows (z : ℤ) : Result ℤ Outside → Type 0 where
  fits : SFits w32 z → Narrows z (Ok z)
  above : pos 2_147_483_647 <ℤ z → Narrows z (Err Outside'.Above)
  below : z <ℤ negsuc 2_147_483_647 → Narrows z (Err Outside'.Below)
