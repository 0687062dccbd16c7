-- What the proofs need: how bytes are added to a line, and what a block has of it.
use Rattle.std.specs.Prelude.{ℕ, ◌+◌, ◌≤◌, ◌<◌, ◌-◌, ◌≡◌, List, [], ◌∷◌, ◌++◌, length, take, drop, Option, Some, None, unwrap_or}
use Rattle.std.proofs.Common.{sym, subst, ◌∙◌, ap, append_assoc, arith, length-append, length-drop, take_all, take_at, drop-drop, drop_at}
use Rattle.std.proofs.Math.Seq.{drop-length}
use Rattle.writer.specs.Promise.{Copies, copied, no_room}
use Rattle.bytesearch.specs.Promise.{UpTo}
use Rattle.whole.specs.Text.{newline}
use Rattle.textlines.specs.Lines.{longest_read}
use Rattle.textlines.specs.Promise.{AddsToLine, TakesRest, TakesLine}

pub adds_copied : {l : List ℕ} {n : ℕ} {q l' : List ℕ} (r : Option ℕ) → length l ≡ longest_read → Copies q l n l' r → AddsToLine l n q l' (unwrap_or r (longest_read + 1))
adds_copied (Some i) e (copied h) = AddsToLine.fits (omega arith)
adds_copied None e (no_room h) = AddsToLine.over (omega arith)

-- ---- the bytes up to a newline, or up to the end of the block

module _ {b : List ℕ} {at end : ℕ} {l : List ℕ} {n : ℕ} {l' : List ℕ} {n' : ℕ} (f : AddsToLine l n (take (end - at) (drop at b)) l' n') (i : at < length b) where
  pub takes_rest : UpTo newline b at end → length b ≤ end → TakesRest b at l n end l' n'
  takes_rest (UpTo.stands {q} v e w p) h = absurd (omega (arith, ap length e, length-append q (newline ∷ v), length-drop at b))
  takes_rest (UpTo.ends {q} e w p) h =
      subst (λ (k : ℕ). TakesRest b at l n k l' n') (sym p)
      (TakesRest.rest e w (subst (λ (x : List ℕ). AddsToLine l n x l' n') (ap (take (end - at)) e ∙ take_all (end - at) q (omega arith)) f))

  pub takes_line : UpTo newline b at end → end < length b → TakesLine b at l n (end + 1) l' n'
  takes_line (UpTo.ends {q} e w p) h = absurd (omega (arith, ap length e, length-drop at b))
  takes_line (UpTo.stands {q} v e w p) h =
      subst (λ (j : ℕ). TakesLine b at l n (j + 1) l' n') (sym p)
      (TakesLine.line v e w (subst (λ (y : List ℕ). AddsToLine l n y l' n') (ap (take (end - at)) e ∙ take_at q (newline ∷ v) (end - at) (omega arith)) f))

-- ---- either way the block is read further

pub rest_grows : {b : List ℕ} {at : ℕ} {l : List ℕ} {n i : ℕ} {l' : List ℕ} {n' : ℕ} → TakesRest b at l n i l' n' → at < length b → at < i
rest_grows {b} {at} (TakesRest.rest {q} e w f) h = omega (arith, ap length e, length-drop at b)

pub line_grows : {b : List ℕ} {at : ℕ} {l : List ℕ} {n i : ℕ} {l' : List ℕ} {n' : ℕ} → TakesLine b at l n i l' n' → at < i
line_grows (TakesLine.line u e w f) = omega arith

-- ---- what comes after it in the block

pub after_rest : (b : List ℕ) (at : ℕ) {q : List ℕ} → drop at b ≡ q → drop (at + length q) b ≡ []
after_rest b at {q} e = sym (drop-drop (length q) at b) ∙ ap (drop (length q)) e ∙ drop-length q

pub after_line : (b : List ℕ) (at : ℕ) (q u : List ℕ) → drop at b ≡ q ++ (newline ∷ u) → drop (at + length q + 1) b ≡ u
after_line b at q u e =
    ap (λ (x : ℕ). drop x b) (sum at (length q)) ∙ sym (drop-drop (length q + 1) at b) ∙ ap (drop (length q + 1)) (e ∙ sym (append_assoc q (newline ∷ []) u))
    ∙ drop_at (q ++ (newline ∷ [])) u (length q + 1) (length-append q (newline ∷ []))
  where
    sum : (i j : ℕ) → i + j + 1 ≡ i + (j + 1)
    sum i j = omega arith
