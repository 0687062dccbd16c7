-- The line buffer stands for the bytes of the unfinished line, however they came; and bytes that come in parts are cut into the lines of the whole text.
use Rattle.std.specs.Prelude.{ℕ, ◌+◌, ◌<◌, ◌≡◌, refl, List, [], ◌∷◌, ◌++◌, length, take, drop}
use Rattle.std.proofs.Common.{sym, ◌∙◌, ap, subst, append_assoc, arith, length-append, take_at, length-take-le}
use Rattle.whole.specs.Text.{newline}
use Rattle.bytesearch.specs.Promise.{Without}
use Rattle.bytesearch.specs.Laws.{without_both}
use Rattle.writer.proofs.PutLaws.{length_put}
use Rattle.textlines.specs.Lines.{Lines, longest_read}
use Rattle.textlines.specs.Promise.{Holds, AddsToLine}

pub holds_none : (l : List ℕ) → Holds l 0 []
holds_none l = Holds.fits (omega arith) refl refl

pub holds_more : {l : List ℕ} {n : ℕ} {p q l' : List ℕ} {n' : ℕ} → length l ≡ longest_read → Holds l n p → AddsToLine l n q l' n' → (length l' ≡ longest_read) × Holds l' n' (p ++ q)
holds_more {l} {n} {p} {q} k (Holds.fits h e t) (AddsToLine.fits f) = (
  length_put l n q (omega arith) ∙ k,
  Holds.fits (omega (arith, length-append p q)) (omega (arith, length-append p q))
      (ap (take (n + length q)) (sym (append_assoc (take n l) q (drop (n + length q) l)))
      ∙ take_at (take n l ++ q) (drop (n + length q) l) (n + length q) (length-append (take n l) q ∙ ap (λ (i : ℕ). i + length q) (length-take-le n l (omega arith)))
      ∙ ap (λ (x : List ℕ). x ++ q) t),
)
holds_more {p = p} {q} k (Holds.fits h e t) (AddsToLine.over f) = (k, Holds.over (omega (arith, length-append p q)) (omega arith))
holds_more k (Holds.over h i) (AddsToLine.fits f) = absurd (omega arith)
holds_more {p = p} {q} k (Holds.over h i) (AddsToLine.over f) = (k, Holds.over (omega (arith, length-append p q)) (omega arith))

-- nothing is held of an empty line, and something of any other
pub holds_some : {l : List ℕ} {n : ℕ} {p : List ℕ} → Holds l n p → 0 < n → 0 < length p
holds_some (Holds.fits h e t) k = omega arith
holds_some (Holds.over h i) k = omega arith

pub holds_nothing : {l : List ℕ} {n : ℕ} (p : List ℕ) → Holds l n p → n ≡ 0 → p ≡ []
holds_nothing [] w e = refl
holds_nothing (x ∷ p) (Holds.fits h d t) e = absurd (omega arith)
holds_nothing (x ∷ p) (Holds.over h i) e = absurd (omega arith)

-- ---- the lines that end in the bytes s, where p was unfinished before them, and what is unfinished after them

pub data Cuts : List ℕ → List ℕ → List (List ℕ) → List ℕ → Type 0 where
  rest : {p q : List ℕ} → Without newline q → Cuts p q [] (p ++ q)
  line : {p q s : List ℕ} {ls : List (List ℕ)} {r : List ℕ} → Without newline q → Cuts [] s ls r → Cuts p (q ++ (newline ∷ s)) ((p ++ q) ∷ ls) r

cuts_first : {p q t : List ℕ} {ms : List (List ℕ)} {r : List ℕ} (i : List ℕ) → i ≡ p ++ q → Without newline q → Cuts i t ms r → Cuts p (q ++ t) ms r
cuts_first {p} {q} i e w (Cuts.rest {q = t} v) = subst (Cuts p (q ++ t) []) (sym (ap (λ (x : List ℕ). x ++ t) e ∙ append_assoc p q t)) (Cuts.rest (without_both w v))
cuts_first {p} {q} {r = r} i e w (Cuts.line {q = t} {s} {ls} v c) =
    subst (λ (x : List ℕ). Cuts p x ((i ++ t) ∷ ls) r) (append_assoc q t (newline ∷ s))
    (subst (λ (x : List ℕ). Cuts p ((q ++ t) ++ (newline ∷ s)) (x ∷ ls) r) (sym (ap (λ (x : List ℕ). x ++ t) e ∙ append_assoc p q t)) (Cuts.line (without_both w v) c))

-- bytes that come in two parts are cut as if they came at once
pub cuts_join : {p s t : List ℕ} {ls ms : List (List ℕ)} {r u : List ℕ} → Cuts p s ls r → Cuts r t ms u → Cuts p (s ++ t) (ls ++ ms) u
cuts_join (Cuts.rest w) d = cuts_first _ refl w d
cuts_join {p} {t = t} {ms = ms} {u = u} (Cuts.line {q} {s} {ls} w c) d = subst (λ (x : List ℕ). Cuts p x ((p ++ q) ∷ (ls ++ ms)) u) (sym (append_assoc q (newline ∷ s) t)) (Cuts.line w (cuts_join c d))

-- what is unfinished at the end of the input is a line, unless there is nothing of it
pub data Last : List ℕ → List (List ℕ) → Type 0 where
  none : Last [] []
  some : {r : List ℕ} → 0 < length r → Last r (r ∷ [])

last_lines : {r : List ℕ} {ms : List (List ℕ)} → Without newline r → Last r ms → Lines r ms
last_lines w Last.none = Lines.none
last_lines w (Last.some h) = Lines.last w h

pub cuts_lines : {p s : List ℕ} {ls : List (List ℕ)} {r : List ℕ} {ms : List (List ℕ)} → Without newline p → Cuts p s ls r → Last r ms → Lines (p ++ s) (ls ++ ms)
cuts_lines w (Cuts.rest v) m = last_lines (without_both w v) m
cuts_lines {p} {ms = ms} w (Cuts.line {q} {s} {ls} v c) m = subst (λ (x : List ℕ). Lines x ((p ++ q) ∷ (ls ++ ms))) (append_assoc p q (newline ∷ s)) (Lines.line (without_both w v) (cuts_lines Without.none c m))
