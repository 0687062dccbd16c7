-- What the rows of a promise come to: which row decides, and that they allow one result.
-- Assumes nothing.
use Rattle.std.specs.Prelude.{◌≡◌, refl}
use Rattle.std.proofs.Common.{sym, ◌∙◌}
use Rattle.calendar.specs.Rows.{Row, refuses, passes, Unless, If, Answers}

-- where P holds, the rows below it say the result
pub passed : {A : Type 0} {P : Type 0} {refused : A} {Below : A → Type 0} {a : A} → P → Unless P refused Below a → Below a
passed p (refuses x) = absurd (x p)
passed p (passes q b) = b

-- the rows allow one result
abbrev pub One : {A : Type 0} → (A → Type 0) → Type 0
One {A} Rows = (a b : A) → Rows a → Rows b → a ≡ b

-- they do if those below do
pub row_one : {A : Type 0} {Bad Good : Type 0} {refused : A} {Below : A → Type 0} → (Bad → Good → ⊥) → (Good → One Below) → One (Row Bad Good refused Below)
row_one apart below a b (refuses x) (refuses y) = refl
row_one apart below a b (refuses x) (passes g q) = absurd (apart x g)
row_one apart below a b (passes g p) (refuses y) = absurd (apart y g)
row_one apart below a b (passes g p) (passes h q) = below g a b p q

pub unless_one : {A : Type 0} {P : Type 0} {refused : A} {Below : A → Type 0} → (P → One Below) → One (Unless P refused Below)
unless_one = row_one (λ n p. n p)

pub if_one : {A : Type 0} {P : Type 0} {refused : A} {Below : A → Type 0} → (¬ P → One Below) → One (If P refused Below)
if_one = row_one (λ p n. n p)

pub answers_one : {A : Type 0} (c : A) → One (Answers c)
answers_one c a b e f = e ∙ sym f
