-- Two results that a promise allows for one input are equal. That of `start` and `reads_on` is an equation.
-- Assumes nothing.
use Rattle.std.specs.Prelude.{ℕ, ◌≡◌, List, ◌++◌, length, take, Result, Ok, Err}
use Rattle.std.proofs.Math.Path.{refl}
use Rattle.std.proofs.Common.{sym, ◌∙◌, ap, true≢false}
use Rattle.writer.specs.Promise.{put}
use Rattle.writer.specs.One.{decimal_one}
use Rattle.filter.specs.declared.Event.{Event}
use Rattle.filter.specs.declared.Phase.TheVariants.{Failing}
use Rattle.filter.specs.declared.State.{State}
use Rattle.filter.specs.Promise.{state_with_value}
use Rattle.filter.specs.One.{puts_message_one}
use Rattle.nametable.specs.declared.Names.{Names}
use Rattle.catalogueread.specs.Promise.{read_state, Reached, going, stopped, ReadsBlock, ReadsLast}
use Rattle.catalogueread.specs.One.{read_block_one, read_last_one}
use Rattle.cataloguerun.specs.declared.CatalogueRun.{CatalogueRun}
use Rattle.cataloguerun.specs.Promise.{Advances, Closes, GoesOn, refused_at, words_of, Reason, reason, reasons, Complains}
use Rattle.refusals.specs.declared.Refusal.{Refusal}

-- what a block that was read comes to
memory_of : Reached → Names
memory_of (going s) = s.held_in
memory_of (stopped m l f) = m

line_of : Reached → List ℕ
line_of (going s) = s.line
line_of (stopped m l f) = l

run_of : Reached → CatalogueRun
run_of (going s) = CatalogueRun.Reading s.lines s.held
run_of (stopped m l f) = CatalogueRun.Refused f

module _ {b : List ℕ} {from k : ℕ} {m : Names} {n : ℕ} {l : List ℕ} {h : ℕ} where
  reached_by : {m' : Names} {l' : List ℕ} {r : CatalogueRun} → Advances b from k m n l h m' l' r
      → (e : Reached) × ReadsBlock (take k b) (read_state from m n l h) e × (memory_of e ≡ m') × (line_of e ≡ l') × (run_of e ≡ r)
  unfolding memory_of line_of run_of
  reached_by (Advances.reads {s} w) = (going s, w, refl, refl, refl)
  reached_by (Advances.refuses {m'} {l'} {f} w) = (stopped m' l' f, w, refl, refl, refl)

  advances_one : {m₁ m₂ : Names} {l₁ l₂ : List ℕ} {r s : CatalogueRun} → Advances b from k m n l h m₁ l₁ r → Advances b from k m n l h m₂ l₂ s → (m₁ ≡ m₂) × (l₁ ≡ l₂) × (r ≡ s)
  advances_one v w =
      let (d, x, i, j, k) = reached_by v in
      let (e, y, i', j', k') = reached_by w in
      let q = read_block_one x y in
      (sym i ∙ ap memory_of q ∙ i', sym j ∙ ap line_of q ∙ j', sym k ∙ ap run_of q ∙ k')

closed_as : Result ℕ Refusal → CatalogueRun
closed_as (Ok n) = CatalogueRun.Ready
closed_as (Err f) = CatalogueRun.Refused f

module _ {m : Names} {n : ℕ} {l : List ℕ} {h : ℕ} where
  added_by : {m' : Names} {r : CatalogueRun} → Closes m n l h m' r → (a : Result ℕ Refusal) × ReadsLast m n l h m' a × (closed_as a ≡ r)
  unfolding closed_as
  added_by (Closes.closes w) = (_, w, refl)
  added_by (Closes.refuses w) = (_, w, refl)

  closes_one : {m₁ m₂ : Names} {r s : CatalogueRun} → Closes m n l h m₁ r → Closes m n l h m₂ s → (m₁ ≡ m₂) × (r ≡ s)
  closes_one v w =
      let (a, x, i) = added_by v in
      let (b, y, j) = added_by w in
      let (p, q) = read_last_one x y in
      (p, sym i ∙ ap closed_as q ∙ j)

pub go_on_one : {b : List ℕ} {m : Names} {l : List ℕ} {t : CatalogueRun} {e : Event} {m₁ m₂ : Names} {l₁ l₂ : List ℕ} {r s : CatalogueRun}
    → GoesOn b m l t e m₁ l₁ r → GoesOn b m l t e m₂ l₂ s → (m₁ ≡ m₂) × (l₁ ≡ l₂) × (r ≡ s)
go_on_one (GoesOn.some v) (GoesOn.some w) = advances_one v w
go_on_one (GoesOn.some v) (GoesOn.over h) = absurd (true≢false h)
go_on_one (GoesOn.no_more v) (GoesOn.no_more w) = let (p, q) = closes_one v w in (p, refl, q)
go_on_one (GoesOn.no_more v) (GoesOn.over h) = absurd (true≢false h)
go_on_one GoesOn.failed GoesOn.failed = (refl, refl, refl)
go_on_one GoesOn.failed (GoesOn.over h) = absurd (true≢false h)
go_on_one GoesOn.unwritten GoesOn.unwritten = (refl, refl, refl)
go_on_one GoesOn.unwritten (GoesOn.over h) = absurd (true≢false h)
go_on_one GoesOn.finished GoesOn.finished = (refl, refl, refl)
go_on_one GoesOn.finished (GoesOn.over h) = absurd (true≢false h)
go_on_one (GoesOn.over h) (GoesOn.some w) = absurd (true≢false h)
go_on_one (GoesOn.over h) (GoesOn.no_more w) = absurd (true≢false h)
go_on_one (GoesOn.over h) GoesOn.failed = absurd (true≢false h)
go_on_one (GoesOn.over h) GoesOn.unwritten = absurd (true≢false h)
go_on_one (GoesOn.over h) GoesOn.finished = absurd (true≢false h)
go_on_one (GoesOn.over h) (GoesOn.over k) = (refl, refl, refl)

reason_one : {number place : ℕ} {t u : List ℕ} → Reason number place t → Reason number place u → t ≡ u
reason_one {number} (reason c) (reason d) = ap (λ (x : List ℕ). refused_at ++ (x ++ words_of number)) (decimal_one c d)

pub complain_one : {o : List ℕ} {r : CatalogueRun} {o₁ o₂ : List ℕ} {s t : State} → Complains o r o₁ s → Complains o r o₂ t → (o₁ ≡ o₂) × (s ≡ t)
complain_one Complains.nothing_yet Complains.nothing_yet = (refl, refl)
complain_one Complains.nothing Complains.nothing = (refl, refl)
complain_one {o} (Complains.tells (reasons c)) (Complains.tells (reasons d)) = let e = reason_one c d in (ap (put o 0) e, ap (λ (t : List ℕ). state_with_value Failing (length t)) e)
complain_one (Complains.cannot_read v) (Complains.cannot_read w) = puts_message_one v w
