-- What is promised of a line that is held in the line buffer l: n bytes of it stand there, or it is too long, and n is above `longest_read`.
use Rattle.std.specs.Prelude.{ℕ, ◌+◌, ◌≤◌, ◌<◌, ◌≡◌, List, ◌∷◌, ◌++◌, length, take, drop}
use Rattle.writer.specs.Promise.{put}
use Rattle.bytesearch.specs.Promise.{Without}
use Rattle.whole.specs.Text.{newline}
use Rattle.textlines.specs.Lines.{longest_read}

-- ---- which bytes p are held

pub data Holds (l : List ℕ) (n : ℕ) (p : List ℕ) : Type 0 where
  fits : length p ≤ longest_read → n ≡ length p → take n l ≡ p → Holds l n p
  over : longest_read < length p → longest_read < n → Holds l n p

-- the bytes q are added
pub data AddsToLine (l : List ℕ) (n : ℕ) (q : List ℕ) : List ℕ → ℕ → Type 0 where
  fits : n + length q ≤ longest_read → AddsToLine l n q (put l n q) (n + length q)
  over : longest_read < n + length q → AddsToLine l n q l (longest_read + 1)

-- ---- what the block b has of the line, from `at` on

-- the line goes on in the next block: it has the rest of this one
pub data TakesRest (b : List ℕ) (at : ℕ) (l : List ℕ) (n : ℕ) : ℕ → List ℕ → ℕ → Type 0 where
  rest : {q l' : List ℕ} {n' : ℕ} → drop at b ≡ q → Without newline q → AddsToLine l n q l' n' → TakesRest b at l n (at + length q) l' n'

-- the line ends in this block: it has the bytes up to a newline
pub data TakesLine (b : List ℕ) (at : ℕ) (l : List ℕ) (n : ℕ) : ℕ → List ℕ → ℕ → Type 0 where
  line : {q l' : List ℕ} {n' : ℕ} (u : List ℕ) → drop at b ≡ q ++ (newline ∷ u) → Without newline q → AddsToLine l n q l' n' → TakesLine b at l n (at + length q + 1) l' n'
