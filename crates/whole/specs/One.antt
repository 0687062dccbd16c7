-- A promise allows one result.
-- Assumes nothing.
use Rattle.std.specs.Prelude.{◌≡◌, refl, Bool, true, false, ℤ, pos, negsuc, ◌<ℤ◌, Result}
use Rattle.std.specs.Int.Signed.{clash_ℤ}
use Rattle.whole.specs.Promise.{Narrows, fits, above, below}
use Rattle.whole.specs.Whether.{Whether}
use Rattle.whole.specs.Integers.{lt_trans}
use Rattle.whole.specs.Edge.{fits_from, fits_to}
use Rattle.whole.specs.declared.Outside.{Outside}

pub narrows_one : {z : ℤ} {r s : Result ℤ Outside} → Narrows z r → Narrows z s → r ≡ s
narrows_one (fits f) (fits g) = refl
narrows_one (fits f) (above g) = clash_ℤ g (fits_to f)
narrows_one (fits f) (below g) = clash_ℤ g (fits_from f)
narrows_one (above f) (fits g) = clash_ℤ f (fits_to g)
narrows_one (above f) (above g) = refl
narrows_one (above f) (below g) = absurd (never (lt_trans f g))
  where
    never : pos 2_147_483_647 <ℤ negsuc 2_147_483_647 → ⊥
    never h = h.lt
narrows_one (below f) (fits g) = clash_ℤ f (fits_from g)
narrows_one (below f) (above g) = absurd (never (lt_trans g f))
  where
    never : pos 2_147_483_647 <ℤ negsuc 2_147_483_647 → ⊥
    never h = h.lt
narrows_one (below f) (below g) = refl

-- a question has one answer
pub whether_one : (P : Type 0) (a b : Bool) → Whether P a → Whether P b → a ≡ b
whether_one P true true p q = refl
whether_one P true false p q = absurd (q p)
whether_one P false true p q = absurd (p q)
whether_one P false false p q = refl
