-- What `read_date` promises, in the words of the grammar.
-- Assumes nothing.
use Rattle.std.specs.Prelude.{ℕ, List, ℤ, Result, Ok, Err}
use Rattle.refusals.specs.declared.Refusal.{Refusal}
use Rattle.datetext.specs.declared.Text.{Text}
use Rattle.datetext.specs.Grammar.{OrdinalText, YmdText, Fault}

-- what a reader answers: the date that the text writes, or the text's first fault
pub data ReadDate (s : List ℕ) : Result Text Refusal → Type 0 where
  ordinal_text : {y : ℤ} {n k : ℕ} → OrdinalText s y n k → ReadDate s (Ok (Text.Ordinal y n k))
  ymd_text : {y : ℤ} {m d k : ℕ} → YmdText s y m d k → ReadDate s (Ok (Text.Ymd y m d k))
  faulty : {f : Refusal} → Fault s f → ReadDate s (Err f)
