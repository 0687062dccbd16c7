-- `expected::after_fault` meets its promise: the tests are those of `Says`.
use Rattle.expected.specs.Faults.{empty_expects, eight_expects, ten_alone, ten_on, other_expects, thirteen_year}
use Rattle.expected.proofs.after_fault.Goals as goal

pub returns-then-front-lt1 : goal.returns-then-front-lt1
returns-then-front-lt1 c = rw c.beginning.ensures (empty_expects _ c.if-front-lt1.true)

pub returns-then-number-eq8 : goal.returns-then-number-eq8
returns-then-number-eq8 c = rw c.beginning-then-number-eq8.ensures (eight_expects c.requires c.if-number-eq8.true c.if-front-lt1.false)

pub returns-then-front-lt2 : goal.returns-then-front-lt2
returns-then-front-lt2 c = rw c.beginning-then-front-lt2.ensures (ten_alone c.requires c.if-number-eq10.true c.if-front-lt2.true)

pub returns-then-number-eq10 : goal.returns-then-number-eq10
returns-then-number-eq10 c = rw c.beginning-then-number-eq10.ensures (ten_on c.requires c.if-number-eq10.true c.if-front-lt2.false)

pub after_year-requires : goal.after_year-requires
after_year-requires c = thirteen_year c.requires c.if-number-eq13.true

pub returns : goal.returns
returns c = rw c.beginning-2.ensures (other_expects c.requires c.if-number-eq8.false c.if-number-eq10.false c.if-number-eq13.false)
