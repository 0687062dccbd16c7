-- Why a line and the header are what was promised.
use Rattle.std.specs.Prelude.{ℕ, ◌≡◌, List, length, ℤ, pos, Option, Some, None, ok_or}
use Rattle.std.proofs.Common.{sym}
use Rattle.days.specs.DayByDay.{weekday}
use Rattle.calendar.specs.declared.Date.{Date}
use Rattle.writer.specs.Promise.{Puts, Writes, Copies, copied, no_room}
use Rattle.writer.specs.Laws.{left_alone}
use Rattle.refusals.specs.Promise.{refusal as textRefusal}
use Rattle.refusals.specs.declared.Refusal.{Refusal}
use Rattle.linetext.specs.declared.LineNumbers.{LineNumbers}
use Rattle.columns.specs.Columns.{header, style_letters_value, numbers_of_value}
use Rattle.columns.specs.Promise.{PutsHeader}

pub header_put : {t b : List ℕ} {at : ℕ} {b' : List ℕ} {f : Refusal} → t ≡ header → length t ≡ 41 → (o : Option ℕ) → Copies t b at b' o → f ≡ textRefusal 18 0 (pos 41) → PutsHeader b at b' (ok_or o f)
header_put e k (Some i) (copied h) g = Writes.writes e (Puts.done h)
header_put {t} e k None (no_room h) g = left_alone t e (sym k) h g
