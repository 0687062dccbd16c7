-- Two results that a promise allows are equal.
-- Assumes nothing.
use Rattle.std.specs.Prelude.{ℕ, ◌≡◌, refl, List, Result}
use Rattle.std.proofs.Common.{sym, ◌∙◌, ap, ap₂, subst, arith}
use Rattle.bytesearch.specs.One.{never}
use Rattle.refusals.specs.declared.Refusal.{Refusal}
use Rattle.textlines.specs.One.{takes_rest_one, takes_line_one, rest_or_line}
use Rattle.nametable.specs.declared.Names.{Names}
use Rattle.catalogue.proofs.One.{adds_one}
use Rattle.catalogueread.specs.Promise.{AddsHeld, ReadState, read_state, Reached, going, stopped, ReadsNext, ReadsBlock, ReadsLast}

adds_held_one : {m : Names} {n : ℕ} {l : List ℕ} {h : ℕ} {m₁ m₂ : Names} {a b : Result ℕ Refusal} → AddsHeld m n l h m₁ a → AddsHeld m n l h m₂ b → (m₁ ≡ m₂) × (a ≡ b)
adds_held_one (AddsHeld.no_count i) (AddsHeld.no_count j) = (refl, refl)
adds_held_one (AddsHeld.no_count i) (AddsHeld.short j k p) = absurd (omega arith)
adds_held_one (AddsHeld.no_count i) (AddsHeld.long j k) = absurd (omega arith)
adds_held_one (AddsHeld.short i h p) (AddsHeld.no_count j) = absurd (omega arith)
adds_held_one (AddsHeld.short i h p) (AddsHeld.short j k q) = adds_one p q
adds_held_one (AddsHeld.short i h p) (AddsHeld.long j k) = absurd (omega arith)
adds_held_one (AddsHeld.long i h) (AddsHeld.no_count j) = absurd (omega arith)
adds_held_one (AddsHeld.long i h) (AddsHeld.short j k q) = absurd (omega arith)
adds_held_one (AddsHeld.long i h) (AddsHeld.long j k) = (refl, refl)

-- the same line, held in the same way
held_same : {m : Names} {n : ℕ} {l k : List ℕ} {h i : ℕ} {m₁ m₂ : Names} {a b : Result ℕ Refusal} → l ≡ k → h ≡ i → AddsHeld m n l h m₁ a → AddsHeld m n k i m₂ b → (m₁ ≡ m₂) × (a ≡ b)
held_same {m} {n} {l} {k} {h} {i} {m₂ = m₂} {b = b} e d p q =
    adds_held_one p (subst (λ (x : List ℕ). AddsHeld m n x h m₂ b) (sym e) (subst (λ (x : ℕ). AddsHeld m n k x m₂ b) (sym d) q))

same_state : {i j : ℕ} {m₁ m₂ : Names} {n k : ℕ} {l₁ l₂ : List ℕ} {g h : ℕ} → i ≡ j → m₁ ≡ m₂ → n ≡ k → l₁ ≡ l₂ → g ≡ h → going (read_state i m₁ n l₁ g) ≡ going (read_state j m₂ k l₂ h)
same_state {i} {j} {m₁} {m₂} {n} {k} {l₁} {l₂} {g} a b c d e =
    ap (λ (x : ℕ). going (read_state x m₁ n l₁ g)) a ∙ ap (λ (x : Names). going (read_state j x n l₁ g)) b ∙ ap (λ (x : ℕ). going (read_state j m₂ x l₁ g)) c ∙ ap (λ (x : List ℕ). going (read_state j m₂ k x g)) d ∙ ap (λ (x : ℕ). going (read_state j m₂ k l₂ x)) e

same_stop : {m₁ m₂ : Names} {l₁ l₂ : List ℕ} {f g : Refusal} → m₁ ≡ m₂ → l₁ ≡ l₂ → f ≡ g → stopped m₁ l₁ f ≡ stopped m₂ l₂ g
same_stop {m₁} {m₂} {l₁} {l₂} {f} a b c = ap₂ (λ (x : Names) (y : List ℕ). stopped x y f) a b ∙ ap (stopped m₂ l₂) c

next_one : {b : List ℕ} {s : ReadState} {d e : Reached} → ReadsNext b s d → ReadsNext b s e → d ≡ e
next_one (ReadsNext.rest f) (ReadsNext.rest g) = let (i, l, h) = takes_rest_one f g in same_state i refl refl l h
next_one (ReadsNext.rest f) (ReadsNext.line g q) = absurd (rest_or_line f g)
next_one (ReadsNext.rest f) (ReadsNext.refused g q) = absurd (rest_or_line f g)
next_one (ReadsNext.line f p) (ReadsNext.rest g) = absurd (rest_or_line g f)
next_one (ReadsNext.line {n = n} f p) (ReadsNext.line {n = k} g q) =
    let (i, l, h) = takes_line_one f g in
    let (m, e) = held_same l h p q in
    let j : n ≡ k = cc in
    same_state i m j l refl
next_one (ReadsNext.line f p) (ReadsNext.refused g q) =
    let (i, l, h) = takes_line_one f g in
    let (m, e) = held_same l h p q in
    let z : ◌≡◌ {A = ℕ} 0 1 = cc in
    absurd (never z)
next_one (ReadsNext.refused f p) (ReadsNext.rest g) = absurd (rest_or_line g f)
next_one (ReadsNext.refused f p) (ReadsNext.line g q) =
    let (i, l, h) = takes_line_one f g in
    let (m, e) = held_same l h p q in
    let z : ◌≡◌ {A = ℕ} 0 1 = cc in
    absurd (never z)
next_one (ReadsNext.refused {f = why} f p) (ReadsNext.refused {f = because} g q) =
    let (i, l, h) = takes_line_one f g in
    let (m, e) = held_same l h p q in
    let j : why ≡ because = cc in
    same_stop m l j

pub read_block_one : {b : List ℕ} {s : ReadState} {d e : Reached} → ReadsBlock b s d → ReadsBlock b s e → d ≡ e
read_block_one (ReadsBlock.block_ends h) (ReadsBlock.block_ends k) = refl
read_block_one (ReadsBlock.block_ends h) (ReadsBlock.goes_on k w r) = absurd (omega arith)
read_block_one (ReadsBlock.block_ends h) (ReadsBlock.stops k w) = absurd (omega arith)
read_block_one (ReadsBlock.goes_on h v r) (ReadsBlock.block_ends k) = absurd (omega arith)
read_block_one {b} {e = e} (ReadsBlock.goes_on {t = t} h v r) (ReadsBlock.goes_on {t = u} k w q) =
    let i : going t ≡ going u = next_one v w in
    let j : t ≡ u = cc in
    read_block_one r (subst (λ (x : ReadState). ReadsBlock b x e) (sym j) q)
read_block_one (ReadsBlock.goes_on {t = t} h v r) (ReadsBlock.stops {m = m} {l = l} {f = f} k w) =
    let i : going t ≡ stopped m l f = next_one v w in
    let z : ◌≡◌ {A = ℕ} 0 1 = cc in
    absurd (never z)
read_block_one (ReadsBlock.stops h v) (ReadsBlock.block_ends k) = absurd (omega arith)
read_block_one (ReadsBlock.stops {m = m} {l = l} {f = f} h v) (ReadsBlock.goes_on {t = t} k w r) =
    let i : going t ≡ stopped m l f = next_one w v in
    let z : ◌≡◌ {A = ℕ} 0 1 = cc in
    absurd (never z)
read_block_one (ReadsBlock.stops h v) (ReadsBlock.stops k w) = next_one v w

pub read_last_one : {m : Names} {n : ℕ} {l : List ℕ} {h : ℕ} {m₁ m₂ : Names} {a b : Result ℕ Refusal} → ReadsLast m n l h m₁ a → ReadsLast m n l h m₂ b → (m₁ ≡ m₂) × (a ≡ b)
read_last_one (ReadsLast.one_more h p) (ReadsLast.one_more k q) = adds_held_one p q
read_last_one (ReadsLast.one_more h p) (ReadsLast.no_count k) = absurd (omega arith)
read_last_one (ReadsLast.one_more h p) (ReadsLast.no_more k) = absurd (omega arith)
read_last_one (ReadsLast.no_count h) (ReadsLast.one_more k q) = absurd (omega arith)
read_last_one (ReadsLast.no_count h) (ReadsLast.no_count k) = (refl, refl)
read_last_one (ReadsLast.no_count h) (ReadsLast.no_more k) = absurd (omega arith)
read_last_one (ReadsLast.no_more h) (ReadsLast.one_more k q) = absurd (omega arith)
read_last_one (ReadsLast.no_more h) (ReadsLast.no_count k) = absurd (omega arith)
read_last_one (ReadsLast.no_more h) (ReadsLast.no_more k) = (refl, refl)
