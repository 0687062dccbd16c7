-- `calendar::record::later_label` meets its promise.
use mathlib.Core.Path.{◌≡◌}
use Prim.Native.Nat.{ℕ, ◌+◌, ◌/◌, ◌%◌, ◌≤◌}
use native.Mathlib.Omega.{arith}
use Rattle.calendar.specs.Natural.{LabelAt}
use Rattle.calendar.specs.Laws.{label_turning, later_refused, later_at, later_first, place_room}
use Rattle.calendar.specs.declared.Style.TheVariants as Style'
use Rattle.calendar.proofs.record.later_label.Goals as goal
use Rattle.calendar.proofs.record.later_label.Goals.{After-earlier-first}

nought : {m : ℕ} → m ≡ 0 → 1 ≤ m → ⊥
nought e h = omega arith

placed : (c : After-earlier-first) → LabelAt c.args.switch c.args.year c.args.month c.args.day
    (record { past = c.earlier-first.result + c.turning-t.result / 4_294_967_296; ordinal = c.turning-t.result / 4_294_967_296; month = c.args.month; day = c.args.day; day_ordinal = c.turning-t.result % 4_294_967_296; style = Style'.Gregorian })
placed c =
    later_at c.args.year c.requires.1 (label_turning c.args.month c.requires.0.0 c.turning-t.ensures) c.if-t-lt-PAIR.false
    (later_first c.args.year c.requires.1 c.julian_start.ensures c.earlier-first.ensures)

pub turning-t-requires : goal.turning-t-requires
turning-t-requires c = λ e. absurd (nought e c.requires.0.0)

pub returns-then-t-lt-PAIR : goal.returns-then-t-lt-PAIR
returns-then-t-lt-PAIR c =
    rw c.refusal_with.ensures (later_refused c.args.year c.requires.1 (label_turning c.args.month c.requires.0.0 c.turning-t.ensures) c.if-t-lt-PAIR.true)

pub overflow_add-result : goal.overflow_add-result
overflow_add-result c = record { fits = omega (arith, place_room (placed c).0) }

pub returns : goal.returns
returns c = placed c
