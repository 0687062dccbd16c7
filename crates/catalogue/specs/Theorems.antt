-- Lines read one after another into the memory, and what a file that was read came to. The theorems on both are in proofs/Theorems.antt.
use Rattle.std.specs.Prelude.{ℕ, ◌≡◌, List, [], ◌∷◌, length, Result, Ok, Err}
use Rattle.refusals.specs.declared.Refusal.{Refusal}
use Rattle.nametable.specs.declared.Names.{Names}
use Rattle.nametable.specs.Houses.{House}
use Rattle.nametable.specs.Holds.{Holds}
use Rattle.catalogue.specs.Catalogue.{catalogue, refused_by, Means}
use Rattle.catalogue.specs.Promise.{Adds}

pub data Reading : Names → ℕ → List (List ℕ) → Names → Result ℕ Refusal → Type 0 where
  read_all : {m : Names} {n : ℕ} → Reading m n [] m (Ok n)
  read_on : {m m₁ m₂ : Names} {n k : ℕ} {l : List ℕ} {ls : List (List ℕ)} {a : Result ℕ Refusal} → Adds m n l m₁ (Ok k) → Reading m₁ k ls m₂ a → Reading m n (l ∷ ls) m₂ a
  read_refused : {m m₁ : Names} {n : ℕ} {l : List ℕ} {ls : List (List ℕ)} {f : Refusal} → Adds m n l m₁ (Err f) → Reading m n (l ∷ ls) m₁ (Err f)

-- what was read means what the definition says: a refusal, or calendars, which the memory then holds
pub data Read (input : List ℕ) (m : Names) : Result ℕ Refusal → Type 0 where
  is_catalogue : {hs : List House} {n : ℕ} → Means input (catalogue hs) → Holds m hs → n ≡ length hs → Read input m (Ok n)
  is_refused : {f : Refusal} → Means input (refused_by f) → Read input m (Err f)
