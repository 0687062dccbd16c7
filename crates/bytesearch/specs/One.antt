-- Two offsets that the promise allows for one input are equal.
use Rattle.std.specs.Prelude.{ℕ, ◌+◌, ◌≡◌, refl, List, [], ◌∷◌, ◌++◌, length}
use Rattle.std.proofs.Common.{sym, ◌∙◌, ap, ap₂, arith}
use Rattle.bytesearch.specs.Promise.{Without, UpTo}

-- ---- a byte separates what comes before it from what comes after

pub never : ◌≡◌ {A = ℕ} 0 1 → ⊥
never z = omega arith

pub parted_one : {b : ℕ} {q p u v : List ℕ} → Without b q → Without b p → q ++ (b ∷ u) ≡ p ++ (b ∷ v) → (q ≡ p) × (u ≡ v)
parted_one Without.none Without.none e = (refl, cc)
parted_one Without.none (Without.more n w) e = absurd (n cc)
parted_one (Without.more n w) Without.none e = absurd (n cc)
parted_one {b} (Without.more {x} {s} m w) (Without.more {x = y} {s = t} n z) e = by (parted_one w z cc)
  where
    head : x ≡ y
    head = cc

    by : {u v : List ℕ} → (s ≡ t) × (u ≡ v) → (x ∷ s ≡ y ∷ t) × (u ≡ v)
    by (f, g) = (ap₂ (λ (k : ℕ) (l : List ℕ). k ∷ l) head f, g)

pub never_parted : {b : ℕ} {p : List ℕ} (q u : List ℕ) → Without b p → q ++ (b ∷ u) ≡ p → ⊥
never_parted [] u Without.none e = let z : ◌≡◌ {A = ℕ} 0 1 = cc in never z
never_parted [] u (Without.more n w) e = n cc
never_parted (x ∷ q) u Without.none e = let z : ◌≡◌ {A = ℕ} 0 1 = cc in never z
never_parted (x ∷ q) u (Without.more n w) e = never_parted q u w cc

-- ---- up to a byte

pub up_to_one : {b : ℕ} {s : List ℕ} {from r k : ℕ} → UpTo b s from r → UpTo b s from k → r ≡ k
up_to_one {from = from} (UpTo.stands u e w p) (UpTo.stands v f x q) = p ∙ ap (λ (l : List ℕ). from + length l) (parted_one w x (sym e ∙ f)).0 ∙ sym q
up_to_one (UpTo.stands {q = l} u e w p) (UpTo.ends f x q) = absurd (never_parted l u x (sym e ∙ f))
up_to_one (UpTo.ends e w p) (UpTo.stands {q = l} v f x q) = absurd (never_parted l v w (sym f ∙ e))
up_to_one {from = from} (UpTo.ends e w p) (UpTo.ends f x q) = p ∙ ap (λ (l : List ℕ). from + length l) (sym e ∙ f) ∙ sym q
