-- From what the calls below say to the promises.
-- Assumes nothing.
use Rattle.std.specs.Prelude.{ℕ, ◌+◌, ◌≤◌, ◌≡◌, refl, Bool, true, false, cond, List, ◌++◌, eqb, length, Option, Some, None, unwrap_or}
use Rattle.std.proofs.Common.{sym, ◌∙◌, ap, subst, zero-add, arith}
use Rattle.whole.specs.Text.{bytes}
use Rattle.writer.specs.Promise.{Copies, Signs, Decimal}
use Rattle.writer.specs.Laws.{PutText, decimal_of}
use Rattle.writer.proofs.PutLaws.{length_put}
use Rattle.linetext.specs.Laws.{Text, put_text, text_then}
use Rattle.filter.specs.Promise.{block_size}
use Rattle.filter.specs.declared.State.{State}
use Rattle.filter.specs.declared.Event.{Event}
use Rattle.nametable.specs.declared.Names.{Names}
use Rattle.cataloguerun.specs.declared.CatalogueRun.{CatalogueRun}
use Rattle.cataloguerun.specs.declared.CatalogueRun.TheVariants.{Reading, Ready, Refused, Unread}
use Rattle.catalogueread.specs.Promise.{ReadState, Reached, ReadsBlock}
use Rattle.cataloguerun.specs.Promise.{GoesOn, Complains, refused_at, words_of, Reason, reason, Reasons, reasons}

-- ---- what a read came to

pub reads_in : {c d : List ℕ} {s : ReadState} {e : Reached} → c ≡ d → ReadsBlock c s e → ReadsBlock d s e
reads_in {s = s} {e} q w = subst (λ (x : List ℕ). ReadsBlock x s e) q w

pub goes : {b l l' : List ℕ} {m m' : Names} {run r s : CatalogueRun} {x y z : Event} → run ≡ r → x ≡ z → x ≡ y → GoesOn b m l r y m' l' s → GoesOn b m l run z m' l' s
goes {b} {l} {l'} {m} {m'} {r = r} {s} {z = z} q e f w = subst (λ (v : CatalogueRun). GoesOn b m l v z m' l' s) (sym q) (subst (λ (v : Event). GoesOn b m l r v m' l' s) (sym f ∙ e) w)

pub stays : {b l : List ℕ} {m : Names} {e : Event} (r : CatalogueRun) → ((n h : ℕ) → ¬ (r ≡ Reading n h)) → GoesOn b m l r e m l r
stays (Reading n h) k = absurd (k n h refl)
stays Ready k = GoesOn.over refl
stays (Refused f) k = GoesOn.over refl
stays Unread k = GoesOn.over refl

pub complains : {o o' : List ℕ} {run r : CatalogueRun} {s t : State} → run ≡ r → s ≡ t → Complains o r o' t → Complains o run o' s
complains {o} {o'} {r = r} {s} q e w = subst (λ (v : CatalogueRun). Complains o v o' s) (sym q) (subst (Complains o r o') (sym e) w)

-- ---- a text with room for it

pub text_put : {t o : List ℕ} {at : ℕ} {o' : List ℕ} (r : Option ℕ) → at + length t ≤ length o → Copies t o at o' r → PutText o at t o' (unwrap_or r at)
text_put (Some i) h (Copies.copied k) = record { is = refl; offset = refl }
text_put None h (Copies.no_room k) = absurd (omega arith)

-- ---- a refusal in words

either : (s t : List ℕ) (b : Bool) → length s ≤ 60 → length t ≤ 60 → length (cond b s t) ≤ 60
either s t true h k = h
either s t false h k = k

pub words_short : (n : ℕ) → length (words_of n) ≤ 60
unfolding words_of bytes
words_short n =
    either _ _ (eqb n 22) (omega arith)
    (either _ _ (eqb n 11) (omega arith)
    (either _ _ (eqb n 28) (omega arith)
    (either _ _ (eqb n 23) (omega arith)
    (either _ _ (eqb n 24) (omega arith)
    (either _ _ (eqb n 1) (omega arith) (either _ _ (eqb n 2) (omega arith) (omega arith)))))))

-- the three parts of the message, one after another
data Ending (number place : ℕ) : List ℕ → Type 0 where
  ending : {d : List ℕ} → Decimal d place → Ending number place (d ++ words_of number)

module _ (number place : ℕ) where
  digits_then : (u v : List ℕ) → Signs false place u → v ≡ words_of number → Ending number place (u ++ v)
  digits_then u v (Signs.signs w) e = subst (λ (x : List ℕ). Ending number place (u ++ x)) (sym e) (ending (decimal_of w))

  all_three : (u v : List ℕ) → u ≡ refused_at → Ending number place v → Reason number place (u ++ v)
  all_three u v e (ending d) = subst (λ (x : List ℕ). Reason number place (x ++ v)) (sym e) (reason d)

long_refused : length refused_at ≡ 27
unfolding refused_at bytes
long_refused = refl

pub reasons_put : {number place : ℕ} {o o₁ o₂ o₃ : List ℕ} {i j k : ℕ} → length o ≡ block_size
    → PutText o 0 refused_at o₁ i → Text (Signs false place) 20 o₁ i o₂ j → PutText o₂ j (words_of number) o₃ k → Reasons number place o o₃ k
reasons_put {number} {place} {o} {o₁} {o₃ = o₃} long s t u =
    let b : length o₁ ≡ block_size = ap length s.is ∙ length_put o 0 refused_at (omega (arith, long_refused)) ∙ long in
    let v = text_then t {R = Ending number place} (put_text {P = λ (x : List ℕ). x ≡ words_of number} {m = 60} refl (words_short number) u) (digits_then number place) (omega (arith, s.offset, long_refused)) in
    let w = text_then (put_text {P = λ (x : List ℕ). x ≡ refused_at} {m = 27} refl (omega (arith, long_refused)) s) {R = Reason number place} v (all_three number place) (omega arith) in
    subst (Reasons number place o o₃) (sym (w.put.offset ∙ zero-add (length w.text))) (subst (λ (x : List ℕ). Reasons number place o x (length w.text)) (sym w.put.is) (reasons w.is))
