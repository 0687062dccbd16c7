-- `catalogueread::add_held` meets its promise.
use Rattle.catalogueread.specs.Promise.{AddsHeld}
use Rattle.catalogueread.proofs.add_held.Goals as goal

pub returns-then-lines-gt-LINES : goal.returns-then-lines-gt-LINES
returns-then-lines-gt-LINES c = rw c.refusal_at.ensures (AddsHeld.no_count c.if-lines-gt-LINES.true)

pub returns-then-held-le-LONGEST_READ : goal.returns-then-held-le-LONGEST_READ
returns-then-held-le-LONGEST_READ c = AddsHeld.short c.if-lines-gt-LINES.false c.if-held-le-LONGEST_READ.true c.add_line.ensures

pub returns : goal.returns
returns c = rw c.refusal_at-2.ensures (AddsHeld.long c.if-lines-gt-LINES.false c.if-held-le-LONGEST_READ.false)
