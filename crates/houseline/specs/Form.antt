-- A line of a catalogue: a name of 1 to `most_name` capitals, digits and underscores, a tab, an optional `-`, and one digit or more; at most
-- `longest_read` bytes.
-- Nothing here reads: each rule says of what parts the bytes are put together. A byte is any number below 256.
use Rattle.std.specs.Prelude.{ℕ, ◌≤◌, ◌<◌, List, [], ◌∷◌, ◌++◌, length, ℤ, pos, neg_ℤ}
use Rattle.digits.specs.Numerals.{dash, Digit, Numeral}
use Rattle.whole.specs.Text.{tab}
use Rattle.textlines.specs.Lines.{longest_read}
use Rattle.nametable.specs.Limits.{most_name}

-- `A` to `Z`, `0` to `9`, `_`
pub data Letter : ℕ → Type 0 where
  capital : {b : ℕ} → 65 ≤ b → b ≤ 90 → Letter b
  digit : {b : ℕ} → Digit b → Letter b
  underscore : Letter 95

pub data Letters : List ℕ → Type 0 where
  none : Letters []
  more : {b : ℕ} {s : List ℕ} → Letter b → Letters s → Letters (b ∷ s)

pub record Name (s : List ℕ) : Type 0 where
  pub some : 0 < length s
  pub short : length s ≤ most_name
  pub letters : Letters s

-- a whole number of any size
pub data Written : List ℕ → ℤ → Type 0 where
  plain : {p : List ℕ} {n : ℕ} → Numeral p n → Written p (pos n)
  with_dash : {p : List ℕ} {n : ℕ} → Numeral p n → Written (dash ∷ p) (neg_ℤ (pos n))

-- the line l has this name and this number
pub data Form : List ℕ → List ℕ → ℤ → Type 0 where
  form : {name text : List ℕ} {z : ℤ} → Name name → Written text z → length (name ++ (tab ∷ text)) ≤ longest_read → Form (name ++ (tab ∷ text)) name z
