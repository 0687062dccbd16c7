-- THE THEOREMS ON A RUN OF THE EXPLANATION. A program that has read its catalogue, does what the turns say, and whose reads and writes do not fail, writes
-- the explanation of its catalogue and its input, whatever parts these come in (`run_explains`); so two runs on them write the same (`any_run`).
use Rattle.std.specs.Prelude.{ℕ, ◌≡◌, List, length, Result}
use Rattle.std.proofs.Common.{sym, true≢false}
use Rattle.nametable.specs.declared.Names.{Names}
use Rattle.filter.specs.declared.State.{State}
use Rattle.textlines.specs.Lines.{longest_read}
use Rattle.entry.specs.Promise.{Naming}
use Rattle.catalogue.specs.Promise.{NamesIn}
use Rattle.catalogue.proofs.Theorems.{named_with}
use Rattle.cataloguerun.specs.declared.CatalogueRun.{CatalogueRun}
use Rattle.cataloguerun.specs.Theorems.{ComesTo, ready, refused}
use Rattle.explaining.specs.Paragraph as P
use Rattle.explaining.specs.Paragraph.{Paragraph}
use Rattle.linerun.specs.Promise.{AllOut, LinesOut}
use Rattle.linerun.specs.Theorems.{Turns, run_answers}
use Rattle.explainrun.specs.Promise.{start_of, unread, unwritten}
use Rattle.explainrun.specs.Explanation as E
use Rattle.explainrun.specs.Explanation.{Explanation}
use Rattle.explainrun.specs.One.{explanation_one}
use Rattle.refusals.specs.declared.Refusal.{Refusal}
use Rattle.calendar.specs.declared.Calendar.{Calendar}

-- ---- where whatever N says of a name M says too, a paragraph by N is one by M
module _ {N M : Naming} (also : (s : List ℕ) (a : Result Calendar Refusal) → N s a → M s a) where
  by_entry_also : {l t : List ℕ} → P.ByEntry N l t → P.ByEntry M l t
  by_entry_also (P.no_name p n x) = P.no_name p (also _ _ n) x
  by_entry_also (P.by_text p n e x) = P.by_text p (also _ _ n) e x

  explained_also : {l t : List ℕ} → P.Explained N l t → P.Explained M l t
  explained_also (P.too_long h) = P.too_long h
  explained_also (P.explained h x) = P.explained h (by_entry_also x)

  paragraph_also : {l t : List ℕ} → Paragraph N l t → Paragraph M l t
  paragraph_also p = record { is = explained_also p.is; short = p.short }

  all_also : {ls : List (List ℕ)} {t : List ℕ} → AllOut (Paragraph N) ls t → AllOut (Paragraph M) ls t
  all_also AllOut.none = AllOut.none
  all_also (AllOut.next p r) = AllOut.next (paragraph_also p) (all_also r)

  lines_also : {i t : List ℕ} → LinesOut (Paragraph N) i t → LinesOut (Paragraph M) i t
  lines_also (LinesOut.lines_out m x) = LinesOut.lines_out m (all_also x)

-- ---- the theorems

-- turn after turn, with the catalogue in the memory m
abbrev pub Run : Names → State → List ℕ → List ℕ → List ℕ → List ℕ → List ℕ → Type 0
Run m = Turns (Paragraph (NamesIn m)) unread unwritten

pub run_explains : {house : List ℕ} {run : CatalogueRun} {m : Names} {b l o i t : List ℕ} → length l ≡ longest_read → ComesTo house run m → Run m (start_of run) b l o i t → Explanation house i t
run_explains k (ready p g) w = E.explanation p (lines_also (λ s a n. named_with p g n) (run_answers k w))
run_explains k (refused p) (Turns.over e) = E.refused p
run_explains k (refused p) (Turns.turn e d r g w) = absurd (true≢false (sym e))

-- so two runs on one catalogue and one input write the same
pub any_run : {house : List ℕ} {run fun : CatalogueRun} {m n : Names} {a b l k o p i t u : List ℕ} → length l ≡ longest_read → length k ≡ longest_read
    → ComesTo house run m → ComesTo house fun n → Run m (start_of run) a l o i t → Run n (start_of fun) b k p i u → t ≡ u
any_run j h c d v w = explanation_one (run_explains j c v) (run_explains h d w)
