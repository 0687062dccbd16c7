-- `explaining::fill::fill` meets its promise, the loop by the invariant `Going`.
use Rattle.explaining.specs.Laws.{Going}
use Rattle.explaining.proofs.fill.fill.Given as goal

abbrev pub invariant-loop-b : goal.invariant-loop-b
invariant-loop-b l = Going l.name l.text l.pattern l.numbers l.initial.out l.at l.out l.end l.used l.b-index
