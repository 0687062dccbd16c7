-- The rows of the table of refusals that a call can meet, one under the other: the first that applies decides.
-- Assumes nothing.
use Rattle.std.specs.Prelude.{◌≡◌}

-- one row over the rows below it: refused where `Bad` holds; where `Good` holds, the rows below decide
pub data Row {A : Type 0} (Bad Good : Type 0) (refused : A) (Below : A → Type 0) : A → Type 0 where
  refuses : Bad → Row Bad Good refused Below refused
  passes : Good → {a : A} → Below a → Row Bad Good refused Below a

-- refused unless P holds; refused if P holds
abbrev pub Unless : {A : Type 0} → Type 0 → A → (A → Type 0) → A → Type 0
Unless P = Row (¬ P) P

abbrev pub If : {A : Type 0} → Type 0 → A → (A → Type 0) → A → Type 0
If P = Row P (¬ P)

-- the answer is a
abbrev pub Answers : {A : Type 0} → A → A → Type 0
Answers a b = b ≡ a
