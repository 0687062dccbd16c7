-- `commatext::inside_quotes` and `commatext::outside_quotes` meet their promises.
use Rattle.std.proofs.Common.{arith, refl}
use Rattle.commatext.specs.Laws.{before_end, inside_run, unclosed, inside_undecided, inside_long, not_in_quotes, closing_quote, here, piece, at_within, finds_undecided, finds_long, after_comma, commas_fit, field_on, after_quote, quote_in_text, after_closing, not_in_text}
use Rattle.commatext.proofs.+inside_quotes_outside_quotes.Goals as goal

pub inside_quotes-returns-then-ends : goal.inside_quotes-returns-then-ends
inside_quotes-returns-then-ends t c = unclosed (inside_run c.requires c.run_end-end.ensures.along) c.if-end-s.true c.if-ends.true

pub inside_quotes-returns-then-end-s : goal.inside_quotes-returns-then-end-s
inside_quotes-returns-then-end-s t c = inside_undecided (inside_run c.requires c.run_end-end.ensures.along) c.if-end-s.true c.if-ends.false

pub inside_quotes-returns-then-long : goal.inside_quotes-returns-then-long
inside_quotes-returns-then-long t c = inside_long (inside_run c.requires c.run_end-end.ensures.along) (before_end c.run_end-end.ensures.along.within c.if-end-s.false) (omega arith)

pub inside_quotes-outside_quotes-requires : goal.inside_quotes-outside_quotes-requires
inside_quotes-outside_quotes-requires t c =
    (omega arith, closing_quote (inside_run c.requires c.run_end-end.ensures.along) (before_end c.run_end-end.ensures.along.within c.if-end-s.false) (omega arith) c.if-s-end-eq34.true)

pub inside_quotes-returns : goal.inside_quotes-returns
inside_quotes-returns t c =
    not_in_quotes (inside_run c.requires c.run_end-end.ensures.along) (before_end c.run_end-end.ensures.along.within c.if-end-s.false) (omega arith) c.if-s-end-eq34.false c.run_end-end.ensures.stopped

pub outside_quotes-overflow_add-commas : goal.outside_quotes-overflow_add-commas
outside_quotes-overflow_add-commas t c = omega (arith, commas_fit (piece (here c.requires c.field_end-end.ensures)))

pub outside_quotes-outside_quotes-requires : goal.outside_quotes-outside_quotes-requires
outside_quotes-outside_quotes-requires t c = (
  omega (arith, c.decreases, at_within c.requires, field_on c.field_end-end.ensures),
  rw c.first_comma-comma.ensures (after_comma (piece (here c.requires c.field_end-end.ensures)) refl c.in-Comma.ensures),
)

pub outside_quotes-inside_quotes-requires : goal.outside_quotes-inside_quotes-requires
outside_quotes-inside_quotes-requires t c = (
  omega (arith, c.decreases, at_within c.requires, field_on c.field_end-end.ensures),
  after_quote (here c.requires c.field_end-end.ensures) c.if-end-at.true refl c.in-Quote.ensures,
)

pub outside_quotes-returns-then-quoted : goal.outside_quotes-returns-then-quoted
outside_quotes-returns-then-quoted t c = after_closing (here c.requires c.field_end-end.ensures) c.if-quoted.true refl c.in-Other.ensures

pub outside_quotes-returns-in-Undecided : goal.outside_quotes-returns-in-Undecided
outside_quotes-returns-in-Undecided t c = finds_undecided (piece (here c.requires c.field_end-end.ensures)) refl c.in-Undecided.ensures

pub outside_quotes-returns-in-TooLong : goal.outside_quotes-returns-in-TooLong
outside_quotes-returns-in-TooLong t c = finds_long (piece (here c.requires c.field_end-end.ensures)) refl c.in-TooLong.ensures

pub outside_quotes-returns-else-end-at : goal.outside_quotes-returns-else-end-at
outside_quotes-returns-else-end-at t c = quote_in_text (here c.requires c.field_end-end.ensures) c.if-end-at.false refl c.in-Quote.ensures

pub outside_quotes-returns-else-quoted : goal.outside_quotes-returns-else-quoted
outside_quotes-returns-else-quoted t c = not_in_text (here c.requires c.field_end-end.ensures) c.if-quoted.false refl c.in-Other.ensures
