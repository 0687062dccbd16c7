-- `monthdays::is_month` meets its promise.
use Prim.Native.Nat.{ℕ, ◌≤◌}
use mathlib.Core.Path.{sym, subst}
use mathlib.Core.Logic.{⊎_elim}
use native.Mathlib.Omega.{arith}
use lib.Dec.{leb}
use borrow.Author.Tests.{le-leb, lt-leb}
use Rattle.whole.specs.Tests.{lt_or_ge}
use Rattle.whole.specs.Whether.{Whether}
use Rattle.days.specs.DayByDay.{Month}
use Rattle.monthdays.proofs.is_month.Goals as goal

at_most_twelve : (m : ℕ) → 1 ≤ m → Whether (Month m) (leb m 12)
at_most_twelve m h = ⊎_elim
    (λ k. subst (Whether (Month m)) (sym (lt-leb m 12 k)) (λ v. omega (arith, v.1)))
    (λ k. subst (Whether (Month m)) (sym (le-leb m 12 k)) (h, k))
    (lt_or_ge 12 m)

pub returns-then-month-lt1 : goal.returns-then-month-lt1
returns-then-month-lt1 c = λ v. omega (arith, v.0, c.if-month-lt1.true)

pub returns : goal.returns
returns c = at_most_twelve _ c.if-month-lt1.false
