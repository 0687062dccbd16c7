-- A text has one list of lines, whatever its bytes are; and each promise allows one result.
use Rattle.std.specs.Prelude.{ℕ, ◌+◌, ◌≡◌, refl, Bool, true, false, List, [], ◌∷◌, length, eqb}
use Rattle.std.proofs.Common.{sym, ◌∙◌, ap, ap₂, subst, arith, length-append, eqb-true}
use Rattle.std.proofs.lemmas.Bool.{eqb-false}
use Rattle.bytesearch.specs.Promise.{Without}
use Rattle.bytesearch.specs.One.{parted_one, never_parted}
use Rattle.writer.specs.Promise.{put}
use Rattle.whole.specs.Text.{newline}
use Rattle.textlines.specs.Lines.{Lines}
use Rattle.textlines.specs.Promise.{AddsToLine, TakesRest, TakesLine}

lines_same : {s z : List ℕ} {ls ms : List (List ℕ)} → s ≡ z → Lines s ls → Lines z ms → ls ≡ ms
lines_same e Lines.none Lines.none = refl
lines_same e Lines.none (Lines.last w h) = absurd (omega (arith, ap length e))
lines_same e Lines.none (Lines.line {l} {s} w r) = absurd (omega (arith, ap length e, length-append l (newline ∷ s)))
lines_same e (Lines.last w h) Lines.none = absurd (omega (arith, ap length e))
lines_same e (Lines.last w h) (Lines.last v k) = ap (λ (l : List ℕ). l ∷ []) e
lines_same e (Lines.last w h) (Lines.line {l} {s} v r) = absurd (never_parted l s w (sym e))
lines_same e (Lines.line {l} {s} w r) Lines.none = absurd (omega (arith, ap length e, length-append l (newline ∷ s)))
lines_same e (Lines.line {l} {s} w r) (Lines.last v k) = absurd (never_parted l s v e)
lines_same e (Lines.line w r) (Lines.line v q) =
    let p = parted_one w v e in ap₂ (λ (l : List ℕ) (ls : List (List ℕ)). l ∷ ls) p.0 (lines_same p.1 r q)

pub lines_one : {s : List ℕ} {ls ms : List (List ℕ)} → Lines s ls → Lines s ms → ls ≡ ms
lines_one = lines_same refl

-- ---- and it has one

-- a byte that is no newline goes before the first line
longer : {b : ℕ} {s : List ℕ} → ¬ (b ≡ newline) → (ls : List (List ℕ)) → Lines s ls → (ms : List (List ℕ)) × Lines (b ∷ s) ms
longer {b} n ls Lines.none = (_, Lines.last (Without.more n Without.none) (omega arith))
longer {b} n ls (Lines.last w h) = (_, Lines.last (Without.more n w) (omega arith))
longer {b} n ls (Lines.line w r) = (_, Lines.line (Without.more n w) r)

pub lines_some : (s : List ℕ) → (ls : List (List ℕ)) × Lines s ls
lines_some [] = ([], Lines.none)
lines_some (b ∷ s) = go (eqb b newline) refl (lines_some s)
  where
    go : (t : Bool) → eqb b newline ≡ t → (ls : List (List ℕ)) × Lines s ls → (ms : List (List ℕ)) × Lines (b ∷ s) ms
    go true e (ls, r) = ([] ∷ ls, subst (λ (x : ℕ). Lines (x ∷ s) ([] ∷ ls)) (sym (eqb-true b newline e)) (Lines.line Without.none r))
    go false e (ls, r) = longer (eqb-false b newline e) ls r

-- ---- what is held

pub adds_to_line_one : {l : List ℕ} {n : ℕ} {q p : List ℕ} {l₁ l₂ : List ℕ} {n₁ n₂ : ℕ} → q ≡ p → AddsToLine l n q l₁ n₁ → AddsToLine l n p l₂ n₂ → (l₁ ≡ l₂) × (n₁ ≡ n₂)
adds_to_line_one {l} {n} e (AddsToLine.fits h) (AddsToLine.fits k) = (ap (put l n) e, ap (λ (x : List ℕ). n + length x) e)
adds_to_line_one e (AddsToLine.fits h) (AddsToLine.over k) = absurd (omega (arith, ap length e))
adds_to_line_one e (AddsToLine.over h) (AddsToLine.fits k) = absurd (omega (arith, ap length e))
adds_to_line_one e (AddsToLine.over h) (AddsToLine.over k) = (refl, refl)

module _ {b : List ℕ} {at : ℕ} {l : List ℕ} {n : ℕ} where
  pub takes_rest_one : {i j : ℕ} {l₁ l₂ : List ℕ} {n₁ n₂ : ℕ} → TakesRest b at l n i l₁ n₁ → TakesRest b at l n j l₂ n₂ → (i ≡ j) × (l₁ ≡ l₂) × (n₁ ≡ n₂)
  takes_rest_one (TakesRest.rest e w f) (TakesRest.rest d v g) =
      let q = sym e ∙ d in
      let (x, y) = adds_to_line_one q f g in
      (ap (λ (x : List ℕ). at + length x) q, x, y)

  pub takes_line_one : {i j : ℕ} {l₁ l₂ : List ℕ} {n₁ n₂ : ℕ} → TakesLine b at l n i l₁ n₁ → TakesLine b at l n j l₂ n₂ → (i ≡ j) × (l₁ ≡ l₂) × (n₁ ≡ n₂)
  takes_line_one (TakesLine.line u e w f) (TakesLine.line v d y g) =
      let q = (parted_one w y (sym e ∙ d)).0 in
      let (x, z) = adds_to_line_one q f g in
      (ap (λ (x : List ℕ). at + length x + 1) q, x, z)

  -- a line does not both go on and end
  pub rest_or_line : {i j : ℕ} {l₁ l₂ : List ℕ} {n₁ n₂ : ℕ} → TakesRest b at l n i l₁ n₁ → TakesLine b at l n j l₂ n₂ → ⊥
  rest_or_line (TakesRest.rest e w f) (TakesLine.line {q} u d v g) = never_parted q u w (sym d ∙ e)
