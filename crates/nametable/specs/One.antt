-- Two results that a promise allows are equal, whatever the memory holds.
use Rattle.std.specs.Prelude.{◌≡◌, ℕ, ◌^◌, ◌<◌, Bool, List, length, ℤ, refl, Option}
use Rattle.std.proofs.Common.{sym, ◌∙◌, ap, subst, arith, ext_get_or}
use Rattle.whole.specs.Biased.{unbias_injective}
use Rattle.nametable.specs.Hash.{bucket_of_value}
use Rattle.nametable.specs.Promise.{memory, Stands, Walk, ended, here, astray, onward, Finds, too_long, lost, walks, entered, linked, Enters, no_slot, no_room, enters}
use Rattle.nametable.specs.declared.Names.{Names}

-- a slot holds one name
pub stands_one : {names : List ℕ} {k : ℕ} {s t : List ℕ} → Stands names k s → Stands names k t → s ≡ t
stands_one {names} {k} {s} {t} p q =
    let e : length s ≡ length t = sym p.long ∙ q.long in
    ext_get_or 0 s t e (λ i h. p.bytes i h ∙ sym (q.bytes i (subst (λ (n : ℕ). i < n) e h)))

pub walk_one : {m : Names} {s : List ℕ} {at : ℕ} {a b : Option ℤ} → Walk m s at a → Walk m s at b → a ≡ b
walk_one (ended h) (ended k) = refl
walk_one (ended h) (here k w) = absurd (omega arith)
walk_one (ended h) (astray k n l) = absurd (omega arith)
walk_one (ended h) (onward k n l w) = absurd (omega arith)
walk_one (here h v) (ended k) = absurd (omega arith)
walk_one (here h v) (here k w) = refl
walk_one (here h v) (astray k n l) = absurd (n v)
walk_one (here h v) (onward k n l w) = absurd (n v)
walk_one (astray h m l) (ended k) = absurd (omega arith)
walk_one (astray h m l) (here k w) = absurd (m w)
walk_one (astray h m l) (astray k n o) = refl
walk_one (astray h m l) (onward k n o w) = absurd (omega arith)
walk_one (onward h m l v) (ended k) = absurd (omega arith)
walk_one (onward h m l v) (here k w) = absurd (m w)
walk_one (onward h m l v) (astray k n o) = absurd (omega arith)
walk_one (onward h m l v) (onward k n o w) = walk_one v w

pub finds_one : {m : Names} {s : List ℕ} {a b : Option ℤ} → Finds m s a → Finds m s b → a ≡ b
finds_one (too_long h) (too_long k) = refl
finds_one (too_long h) (lost k l) = refl
finds_one (too_long h) (walks k l w) = absurd (omega arith)
finds_one (lost h l) (too_long k) = refl
finds_one (lost h l) (lost k n) = refl
finds_one (lost h l) (walks k n w) = absurd (omega arith)
finds_one (walks h l v) (too_long k) = absurd (omega arith)
finds_one (walks h l v) (lost k n) = absurd (omega arith)
finds_one (walks h l v) (walks k n w) = walk_one v w

pub enters_one : {m : Names} {k : ℕ} {s : List ℕ} {z : ℤ} {m₁ m₂ : Names} {a b : Bool} → Enters m k s z m₁ a → Enters m k s z m₂ b → (m₁ ≡ m₂) × (a ≡ b)
enters_one (no_slot h) (no_slot i) = (refl, refl)
enters_one (no_slot h) (no_room i) = (refl, refl)
enters_one (no_slot h) (enters d i j e) = absurd (omega arith)
enters_one (no_room h) (no_slot i) = (refl, refl)
enters_one (no_room h) (no_room i) = (refl, refl)
enters_one (no_room h) (enters d i j e) = absurd (omega arith)
enters_one (enters d h j e) (no_slot i) = absurd (omega arith)
enters_one (enters d h j e) (no_room i) = absurd (omega arith)
enters_one {m} {k} {s} (enters d h j e) (enters c i l f) =
    (ap (λ (x : ℕ). memory (entered m.slots k s) (linked m.links k (bucket_of_value s) x)) (unbias_injective (2 ^ 31) d c (e ∙ sym f)), refl)
