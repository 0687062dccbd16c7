-- From what the reading of a text says to the rows of the promise.
-- Assumes nothing.
use Rattle.std.specs.Prelude.{◌≡◌, List, ℕ, ℤ, Result, Err, Ok}
use Rattle.std.proofs.Common.{sym, subst}
use Rattle.calendar.specs.declared.Calendar.{Calendar}
use Rattle.refusals.specs.declared.Refusal.{Refusal}
use Rattle.calendar.specs.Calendars.{Accepted}
use Rattle.calendar.specs.RowLaws.{passed}
use Rattle.calendar.specs.Promise.{AtYmd, AtOrdinal}
use Rattle.datetext.specs.Promise.{ReadDate}
use Rattle.datetext.specs.declared.Text.{Text}
use Rattle.dateparse.specs.Promise.{placed_at, ByText, by_fault, by_ordinal, by_ymd}
use Rattle.calendar.specs.declared.Date.{Date}

module _ (c : Calendar) {s : List ℕ} where
  pub fault_row : {f : Refusal} → ReadDate s (Err f) → ByText c s (Err f)
  fault_row (ReadDate.faulty p) = by_fault p

  pub ordinal_row : {y : ℤ} {o k : ℕ} {a b : Result Date Refusal} → ReadDate s (Ok (Text.Ordinal y o k)) → Accepted c → AtOrdinal c y o a → b ≡ placed_at k a → ByText c s b
  ordinal_row (ReadDate.ordinal_text p) x q e = subst (ByText c s) (sym e) (by_ordinal p (passed x q))

  pub ymd_row : {y : ℤ} {m d k : ℕ} {a b : Result Date Refusal} → ReadDate s (Ok (Text.Ymd y m d k)) → Accepted c → AtYmd c y m d a → b ≡ placed_at k a → ByText c s b
  ymd_row (ReadDate.ymd_text p) x q e = subst (ByText c s) (sym e) (by_ymd p (passed x q))
