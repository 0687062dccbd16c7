-- `catalogue::add_line` meets its promise.
use lib.Seq.{length-take-le}
use mathlib.Core.Path.{sym, subst}
use Prim.Native.Nat.{ℕ, ◌≤◌}
use Rattle.nametable.specs.Limits.{most_name}
use Rattle.catalogue.proofs.Laws.{line_made_up, line_malformed, line_outside, line_added, house_fits, place_fits}
use Rattle.catalogue.proofs.add_line.Goals as goal

pub returns-then-count-gt-LINES : goal.returns-then-count-gt-LINES
returns-then-count-gt-LINES c = line_made_up c.if-count-gt-LINES.true c.refusal_at.ensures

pub refused_number-requires : goal.refused_number-requires
refused_number-requires c = place_fits (rw c.in-Err-Outside.field-0-is at c.in-Err-Outside.ensures)

pub slice_bounds-add_house-end : goal.slice_bounds-add_house-end
slice_bounds-add_house-end c = sym (length-take-le _ _ (house_fits c.in-Ok.ensures).0)

pub add_house-requires : goal.add_house-requires
add_house-requires c =
    let f = house_fits c.in-Ok.ensures in
    (c.if-count-gt-LINES.false, subst (λ (k : ℕ). k ≤ most_name) (sym (length-take-le _ _ f.0)) f.1)

pub returns-in-Err-Malformed : goal.returns-in-Err-Malformed
returns-in-Err-Malformed c = line_malformed c.if-count-gt-LINES.false (rw c.in-Err-Malformed.field-0-is at c.in-Err-Malformed.ensures) c.refusal_at-in-Err-Malformed.ensures

pub returns-in-Err-Outside : goal.returns-in-Err-Outside
returns-in-Err-Outside c = line_outside c.if-count-gt-LINES.false (rw c.in-Err-Outside.field-0-is at c.in-Err-Outside.ensures) c.refused_number.ensures

pub returns-in-Ok : goal.returns-in-Ok
returns-in-Ok c = line_added c.if-count-gt-LINES.false c.in-Ok.ensures c.add_house.ensures
