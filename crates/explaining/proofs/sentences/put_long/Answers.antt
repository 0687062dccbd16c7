-- `explaining::sentences::put_long` meets its promise.
use native.Mathlib.Omega.{arith}
use Rattle.whole.specs.Text.{bytes}
use Rattle.explaining.specs.Wording.{long_line}
use Rattle.explaining.specs.Promise.{longest_paragraph}
use Rattle.explaining.specs.Laws.{is_put}
use Rattle.explaining.proofs.sentences.put_long.Goals as goal

pub returns : goal.returns
unfolding long_line bytes
returns c = is_put longest_paragraph (omega arith) c.put_text.ensures
