-- What lent memory stands for: a name has the number that is found along its chain of links. Every content of the memory has a meaning; of which
-- content it holds a list of names with their numbers is said in `Holds`. A byte is any number below 256.
use Rattle.std.specs.Prelude.{◌≡◌, ℕ, ◌+◌, ◌-◌, ◌*◌, ◌^◌, ◌<◌, ◌≤◌, Bool, true, false, List, length, replicate, ℤ, slice_index, slice_index_or, slice_set, Option, Some, None}
use Rattle.whole.specs.Promise.{unbias}
use Rattle.writer.specs.Promise.{put}
use Rattle.nametable.specs.Limits.{most_lines, most_name, slot, heads}
use Rattle.nametable.specs.Hash.{bucket_of_value}
use Rattle.nametable.specs.declared.Names.{Names}

abbrev pub memory : List ℕ → List ℕ → Names
memory s l = record { slots = s; links = l }

-- cleared memory: zeros alone
abbrev pub cleared : Names
cleared = memory (replicate (most_lines * slot) 0) (replicate (heads + 2 * most_lines) 0)

-- ---- slots and links

-- the bytes of s stand in t from a place on
abbrev pub Alike : List ℕ → List ℕ → ℕ → Type 0
Alike s t from = (i : ℕ) → i < length s → slice_index s i ≡ slice_index t (from + i)

-- the name s stands in slot k
pub record Stands (names : List ℕ) (k : ℕ) (s : List ℕ) : Type 0 where
  pub long : slice_index_or names (k * slot + most_name) 0 ≡ length s
  pub bytes : Alike s names (k * slot)

-- the first link of a chain; the link of line k; its number, which is held 2^31 more than it is
abbrev pub head_of : List ℕ → ℕ → ℕ
head_of links b = slice_index links b

abbrev pub next_of : List ℕ → ℕ → ℕ
next_of links k = slice_index links (heads + 2 * k)

abbrev pub number_of : List ℕ → ℕ → ℤ
number_of links k = unbias (2 ^ 31) (slice_index links (heads + 2 * k + 1))

-- ---- finding: from the link `at`, which is one more than the number of a line, or 0

pub data Walk (m : Names) (s : List ℕ) : ℕ → Option ℤ → Type 0 where
  ended : {at : ℕ} → at ≤ 0 → Walk m s at None
  here : {at : ℕ} → 0 < at → Stands m.slots (at - 1) s → Walk m s at (Some (number_of m.links (at - 1)))
  astray : {at : ℕ} → 0 < at → ¬ Stands m.slots (at - 1) s → at ≤ next_of m.links (at - 1) → Walk m s at None
  onward : {at : ℕ} {a : Option ℤ} → 0 < at → ¬ Stands m.slots (at - 1) s → next_of m.links (at - 1) < at → Walk m s (next_of m.links (at - 1)) a → Walk m s at a

pub data Finds (m : Names) (s : List ℕ) : Option ℤ → Type 0 where
  too_long : most_name < length s → Finds m s None
  lost : length s ≤ most_name → most_lines < head_of m.links (bucket_of_value s) → Finds m s None
  walks : {a : Option ℤ} → length s ≤ most_name → head_of m.links (bucket_of_value s) ≤ most_lines → Walk m s (head_of m.links (bucket_of_value s)) a → Finds m s a

-- ---- entering: line k comes first in its chain

abbrev pub entered : List ℕ → ℕ → List ℕ → List ℕ
entered names k s = slice_set (put names (k * slot) s) (k * slot + most_name) (length s)

abbrev pub linked : List ℕ → ℕ → ℕ → ℕ → List ℕ
linked links k b d = slice_set (slice_set (slice_set links (heads + 2 * k) (head_of links b)) (heads + 2 * k + 1) d) b (k + 1)

pub data Enters (m : Names) (k : ℕ) (s : List ℕ) (z : ℤ) : Names → Bool → Type 0 where
  no_slot : most_lines ≤ k → Enters m k s z m false
  no_room : most_name < length s → Enters m k s z m false
  enters : (d : ℕ) → k < most_lines → length s ≤ most_name → unbias (2 ^ 31) d ≡ z → Enters m k s z (memory (entered m.slots k s) (linked m.links k (bucket_of_value s) d)) true
