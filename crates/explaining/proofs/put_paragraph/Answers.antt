-- `explaining::put_paragraph` meets its promise.
use native.Mathlib.Omega.{arith}
use lib.ListN.{length-drop}
use Rattle.std.proofs.lemmas.List.{take_rest}
use lib.Seq.{length-take-le}
use Rattle.explaining.specs.LineLaws.{place_inside, long_paragraph, unnamed_paragraph, reason_paragraph, unknown_name, made_up_name}
use borrow.Author.Rules.{rules}
use Rattle.explaining.proofs.put_paragraph.Goals as goal

pub returns-then-line-gt-LONGEST_ENTRY : goal.returns-then-line-gt-LONGEST_ENTRY
returns-then-line-gt-LONGEST_ENTRY c = long_paragraph c.if-line-gt-LONGEST_ENTRY.true c.put_long.ensures

pub put_reason-requires : goal.put_reason-requires
put_reason-requires c = (
  record {
    room = search rules;
    name_short = omega (arith, length-take-le c.parts_of-parts.result.name_end c.args.line.now c.parts_of-parts.ensures.name_inside, c.parts_of-parts.ensures.name_inside, c.if-line-gt-LONGEST_ENTRY.false);
    text_short = omega (arith, length-drop c.parts_of-parts.result.text_from c.args.line.now, c.if-line-gt-LONGEST_ENTRY.false);
  },
  place_inside (rw (take_rest c.args.line.now c.parts_of-parts.result.text_from) at c.explain-reason.ensures) (omega (arith, length-drop c.parts_of-parts.result.text_from c.args.line.now, c.if-line-gt-LONGEST_ENTRY.false)),
)

pub returns-then-why-eq19 : goal.returns-then-why-eq19
returns-then-why-eq19 c = unnamed_paragraph c.in-Err.why (search rules) c.parts_of-parts.ensures c.in-Err.ensures (unknown_name c.if-why-eq19.true c.put_unknown.ensures)

pub returns-else-why-eq19 : goal.returns-else-why-eq19
returns-else-why-eq19 c = unnamed_paragraph c.in-Err.why (search rules) c.parts_of-parts.ensures c.in-Err.ensures (made_up_name c.if-why-eq19.false (rw (take_rest c.args.line.now c.parts_of-parts.result.text_from) at c.put_reason-else-why-eq19.ensures))

pub returns-in-Ok : goal.returns-in-Ok
returns-in-Ok c =
    let rest = take_rest c.args.line.now c.parts_of-parts.result.text_from in
    reason_paragraph (search rules) c.parts_of-parts.ensures c.in-Ok.ensures (rw rest at c.explain-reason.ensures) (rw rest at c.put_reason.ensures)
