-- `commatext::is_text` meets its promise.
use native.Mathlib.Omega.{arith}
use Rattle.commatext.specs.Grammar.{TextData}
use Rattle.commatext.specs.Private.{Tells}
use Rattle.commatext.specs.Laws.{above_text, below_text, no_quote, no_comma}
use Rattle.commatext.proofs.is_text.Goals as goal

pub returns-then-b-le126 : goal.returns-then-b-le126
returns-then-b-le126 c = Tells.yes (TextData.from_2_d (omega arith) (omega arith))

pub returns-then-b-ge45 : goal.returns-then-b-ge45
returns-then-b-ge45 c = Tells.no (above_text (omega arith))

pub returns-then-b-lt32 : goal.returns-then-b-lt32
returns-then-b-lt32 c = Tells.no (below_text (omega arith))

pub returns-then-b-le33 : goal.returns-then-b-le33
returns-then-b-le33 c = Tells.yes (TextData.from_20 (omega arith) (omega arith))

pub returns-then-b-lt35 : goal.returns-then-b-lt35
returns-then-b-lt35 c = Tells.no (no_quote (omega arith) (omega arith))

pub returns-then-b-le43 : goal.returns-then-b-le43
returns-then-b-le43 c = Tells.yes (TextData.from_23 (omega arith) (omega arith))

pub returns : goal.returns
returns c = Tells.no (no_comma (omega arith) (omega arith))
