-- What the proofs need: what is written for the line that is held.
use Rattle.std.specs.Prelude.{ℕ, ◌≤◌, ◌<◌, List, length, take, Result}
use Rattle.std.proofs.Common.{sym, subst, arith}
use Rattle.writer.specs.Promise.{Writes}
use Rattle.whole.specs.Text.{bytes}
use Rattle.textlines.specs.Lines.{longest_read}
use Rattle.entry.specs.Promise.{Naming}
use Rattle.explaining.specs.Wording.{long_line}
use Rattle.explaining.specs.Paragraph as P
use Rattle.explaining.specs.Paragraph.{Paragraph}
use Rattle.explaining.specs.Laws.{Is}
use Rattle.linerun.specs.Promise.{HeldOut}
use Rattle.refusals.specs.declared.Refusal.{Refusal}

-- the paragraph of a line that is too long
long_paragraph : {N : Naming} (t p : List ℕ) → Is long_line t → longest_read < length p → Paragraph N p t
unfolding long_line bytes
long_paragraph {N} t p e h = subst (Paragraph N p) (sym e) (record { is = P.too_long h; short = omega arith })

module _ {N : Naming} {l b b' : List ℕ} {n at : ℕ} {r : Result ℕ Refusal} where
  pub held_short : n ≤ longest_read → Writes (Paragraph N (take n l)) b at b' r → Writes (HeldOut (Paragraph N) l n) b at b' r
  held_short h (Writes.writes x p) = Writes.writes (HeldOut.short h x) p

  pub held_long : longest_read < n → Writes (Is long_line) b at b' r → Writes (HeldOut (Paragraph N) l n) b at b' r
  held_long h (Writes.writes {t} x p) = Writes.writes (HeldOut.long h (λ q k. long_paragraph t q x k)) p
