-- Two answers that a promise allows for one input are equal.
-- Assumes nothing.
use Rattle.std.specs.Prelude.{◌≡◌, refl, Bool, true, false, ℕ, ℤ, Result, Option}
use Rattle.whole.specs.One.{whether_one}
use Rattle.days.specs.DayByDay.{Is32Bit}
use Rattle.ways.specs.declared.Kind.{Kind}
use Rattle.ways.specs.declared.Given.{Given}
use Rattle.ways.specs.declared.NoStep.{NoStep}
use Rattle.ways.specs.Promise.{IsNeighbour, there, nowhere, toward, beside, Inside, gives, EndedAt, IsStaying, NextStep, made_up, ended, goes}

pub ended_one : (n : ℤ) (a b : Bool) → EndedAt n a → EndedAt n b → a ≡ b
ended_one n true true p q = refl
ended_one n true false p q = absurd (p q)
ended_one n false true p q = absurd (q p)
ended_one n false false p q = refl

pub neighbour_one : (n : ℤ) (a b : Option ℤ) → IsNeighbour n a → IsNeighbour n b → a ≡ b
neighbour_one n a b (there f) (there g) = refl
neighbour_one n a b (there f) (nowhere x) = absurd (x f)
neighbour_one n a b (nowhere x) (there f) = absurd (x f)
neighbour_one n a b (nowhere x) (nowhere y) = refl

pub staying_one : (l : Bool) (d : ℕ) (n : ℤ) (a b : Bool) → IsStaying l d n a → IsStaying l d n b → a ≡ b
staying_one l d n = whether_one (Inside l d × Is32Bit (beside l n))

pub next_step_one : (k : Kind) (n : ℤ) (e : Bool) (a b : Result Given NoStep) → NextStep k n e a → NextStep k n e b → a ≡ b
next_step_one k n e a b (made_up x) (made_up y) = refl
next_step_one k n e a b (made_up x) (ended l) = absurd (x l)
next_step_one k n e a b (made_up x) (goes l p) = absurd (x l)
next_step_one k n e a b (ended l) (made_up x) = absurd (x l)
next_step_one k n e a b (ended l) (ended m) = refl
next_step_one k n e a b (goes l p) (made_up x) = absurd (x l)
next_step_one k n e a b (goes l {e = f} p) (goes m {e = g} q) = let s : f ≡ g = ended_one (toward k (gives k n)) f g p q in cc
