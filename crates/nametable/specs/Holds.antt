-- Of which memory it is true that it holds a list of names with their numbers, and that a name is then found exactly if the list has it.
use Rattle.std.specs.Prelude.{◌≡◌, ℕ, ◌+◌, ◌-◌, ◌*◌, ◌<◌, ◌≤◌, List, length, Option, Some, None, ℤ}
use Rattle.nametable.specs.Limits.{most_lines, most_name, slot, heads}
use Rattle.nametable.specs.Houses.{House, line_at, name_at}
use Rattle.nametable.specs.Hash.{bucket_of_value}
use Rattle.nametable.specs.Promise.{Stands, head_of, next_of, number_of}
use Rattle.nametable.specs.declared.Names.{Names}

abbrev pub chain_at : List House → ℕ → ℕ
chain_at hs k = bucket_of_value (name_at hs k)

-- among the first n lines, link v leads to the last one of chain b
pub record Latest (hs : List House) (b n v : ℕ) : Type 0 where
  pub inside : v ≤ n
  pub is : 0 < v → chain_at hs (v - 1) ≡ b
  pub after : (j : ℕ) → v ≤ j → j < n → ¬ (chain_at hs j ≡ b)

pub record Sized (m : Names) : Type 0 where
  pub names : length m.slots ≡ most_lines * slot
  pub links : length m.links ≡ heads + 2 * most_lines

-- the memory holds the list
pub record Holds (m : Names) (hs : List House) : Type 0 where
  pub sized : Sized m
  pub few : length hs ≤ most_lines
  pub short : (k : ℕ) → k < length hs → length (name_at hs k) ≤ most_name
  pub stands : (k : ℕ) → k < length hs → Stands m.slots k (name_at hs k)
  pub numbers : (k : ℕ) → k < length hs → number_of m.links k ≡ (line_at hs k).number
  pub first : (b : ℕ) → b < heads → Latest hs b (length hs) (head_of m.links b)
  pub next : (k : ℕ) → k < length hs → Latest hs (chain_at hs k) k (next_of m.links k)

-- the list has the name with this number, or has no line with the name
pub data Has (hs : List House) (s : List ℕ) : Option ℤ → Type 0 where
  has : (k : ℕ) → k < length hs → name_at hs k ≡ s → Has hs s (Some (line_at hs k).number)
  has_not : ((k : ℕ) → k < length hs → ¬ (name_at hs k ≡ s)) → Has hs s None
