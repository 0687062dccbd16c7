-- THE THEOREMS ON A CATALOGUE READ IN BLOCKS. In whatever parts a file is read into cleared memory, it comes to its meaning (`calls_catalogue`); so
-- two ways of cutting it come to the same (`any_reads`).
-- Assumes nothing.
use Rattle.std.specs.Prelude.{ℕ, ◌≡◌, refl, List, [], ◌∷◌, ◌++◌, length, drop, Result, Ok, Err}
use Rattle.std.proofs.Common.{sym, ◌∙◌, ap, subst, append_assoc, append-nil, arith, length-drop}
use Rattle.bytesearch.specs.Promise.{Without}
use Rattle.bytesearch.specs.Laws.{without_both, none_left}
use Rattle.refusals.specs.declared.Refusal.{Refusal}
use Rattle.calendar.specs.Rows.{refuses}
use Rattle.whole.specs.Text.{newline}
use Rattle.textlines.specs.Lines.{longest_read, Lines, joined}
use Rattle.textlines.specs.Promise as L
use Rattle.textlines.specs.Promise.{TakesRest, TakesLine}
use Rattle.textlines.specs.Laws.{after_rest, after_line}
use Rattle.textlines.specs.One.{lines_some}
use Rattle.textlines.specs.Theorems.{holds_none, holds_more, holds_some, holds_nothing}
use Rattle.nametable.specs.declared.Names.{Names}
use Rattle.nametable.specs.Houses.{House}
use Rattle.nametable.specs.Holds.{Holds}
use Rattle.houseline.specs.Laws.{form_long}
use Rattle.catalogue.specs.Promise.{Adds, made_up, adds, left_as}
use Rattle.catalogue.proofs.Theorems.{adds_holds, Reading, read_all, read_on, read_refused, Read, reads_catalogue, read_one}
use Rattle.catalogueread.specs.Promise.{AddsHeld, ReadState, read_state, Reached, going, stopped, ReadsNext, ReadsBlock, ReadsLast}

-- ---- a line that is held comes to what its bytes come to

held_adds : {m : Names} {n : ℕ} {l : List ℕ} {h : ℕ} {p : List ℕ} {m' : Names} {a : Result ℕ Refusal} → L.Holds l h p → AddsHeld m n l h m' a → Adds m n p m' a
held_adds w (AddsHeld.no_count k) = made_up k
held_adds {m} {n} {m' = m'} {a} (L.Holds.fits i e t) (AddsHeld.short k j q) = subst (λ (x : List ℕ). Adds m n x m' a) t q
held_adds (L.Holds.over i j) (AddsHeld.short k h q) = absurd (omega arith)
held_adds (L.Holds.fits i e t) (AddsHeld.long k h) = absurd (omega arith)
held_adds (L.Holds.over i j) (AddsHeld.long k h) = adds k (refuses (λ (s, z, f). form_long i s z f)) left_as

-- ---- the memory holds the houses hs, and p is the unfinished line

record Holding (s : ReadState) (hs : List House) (p : List ℕ) : Type 0 where
  memory_holds : Holds s.held_in hs
  count : s.lines ≡ length hs
  buffer : length s.line ≡ longest_read
  line_holds : L.Holds s.line s.held p
  unended : Without newline p

-- these bytes, after p, have lines that are read one after another
abbrev Comes : List ℕ → Names → ℕ → Names → Result ℕ Refusal → Type 0
Comes input m n m' a = (ls : List (List ℕ)) × Lines input ls × Reading m n ls m' a

-- what is still to come: reading goes on with `rest`, or has stopped
abbrev Onward : List ℕ → Names → Result ℕ Refusal → Reached → Type 0
Onward rest m' a (going s) = (hs : List House) (p : List ℕ) → Holding s hs p → Comes (p ++ rest) s.held_in s.lines m' a
Onward rest m' a (stopped m l f) = (m ≡ m') × (Err f ≡ a)

-- a line that ends, and the lines after it
line_ends : {r : List ℕ} (p q u rest : List ℕ) {ls : List (List ℕ)} → r ≡ q ++ (newline ∷ u) → Without newline p → Without newline q → Lines (u ++ rest) ls → Lines (p ++ (r ++ rest)) ((p ++ q) ∷ ls)
line_ends p q u rest {ls} e w v c =
    subst (λ (x : List ℕ). Lines x ((p ++ q) ∷ ls)) (append_assoc p q (newline ∷ (u ++ rest)) ∙ ap (λ (x : List ℕ). p ++ x) (sym (append_assoc q (newline ∷ u) rest)) ∙ ap (λ (x : List ℕ). p ++ (x ++ rest)) (sym e))
    (Lines.line (without_both w v) c)

-- the next block is read from its front
from_front : {s : ReadState} {hs : List House} {p : List ℕ} → Holding s hs p → Holding (read_state 0 s.held_in s.lines s.line s.held) hs p
from_front g = record { memory_holds = g.memory_holds; count = g.count; buffer = g.buffer; line_holds = g.line_holds; unended = g.unended }

-- ---- a block

block_reads : (rest : List ℕ) (m' : Names) (a : Result ℕ Refusal) {b : List ℕ} {s : ReadState} {e : Reached} (hs : List House) (p : List ℕ)
    → ReadsBlock b s e → Holding s hs p → Onward rest m' a e → Comes (p ++ (drop s.at b ++ rest)) s.held_in s.lines m' a
block_reads rest m' a {b} {s} hs p (ReadsBlock.block_ends h) g o =
    subst (λ (x : List ℕ). Comes (p ++ (x ++ rest)) s.held_in s.lines m' a) (sym (none_left (drop s.at b) (omega (arith, length-drop s.at b)))) (o hs p g)
block_reads rest m' a {b} {s} hs p (ReadsBlock.goes_on h (ReadsNext.rest (TakesRest.rest {q} e w f)) r) g o =
    let (x, y) = holds_more g.buffer g.line_holds f in
    let (ls, u, v) = block_reads rest m' a hs (p ++ q) r (record { memory_holds = g.memory_holds; count = g.count; buffer = x; line_holds = y; unended = without_both g.unended w }) o in
    (ls, subst (λ (x : List ℕ). Lines x ls) (ap (λ (x : List ℕ). (p ++ q) ++ (x ++ rest)) (after_rest b s.at e) ∙ append_assoc p q rest ∙ ap (λ (x : List ℕ). p ++ (x ++ rest)) (sym e)) u, v)
block_reads rest m' a {b} {s} hs p (ReadsBlock.goes_on h (ReadsNext.line (TakesLine.line {q} u e w f) d) r) g o =
    let (x, y) = holds_more g.buffer g.line_holds f in
    let z = held_adds y d in
    let (k, i, j, n) = adds_holds g.memory_holds g.count z in
    let (ls, c, v) = block_reads rest m' a (hs ++ (k ∷ [])) [] r (record { memory_holds = j; count = n; buffer = x; line_holds = holds_none _; unended = Without.none }) o in
    (_, line_ends p q u rest e g.unended w (subst (λ (x : List ℕ). Lines (x ++ rest) ls) (after_line b s.at q u e) c), read_on z v)
block_reads rest m' a {b} {s} hs p (ReadsBlock.stops {f = why} h (ReadsNext.refused (TakesLine.line {q} u e w f) d)) g (i, j) =
    let (x, y) = holds_more g.buffer g.line_holds f in
    let (ls, c) = lines_some (u ++ rest) in
    (_, line_ends p q u rest e g.unended w c, subst (λ (x : Result ℕ Refusal). Reading s.held_in s.lines ((p ++ q) ∷ ls) m' x) j (subst (λ (x : Names). Reading s.held_in s.lines ((p ++ q) ∷ ls) x (Err why)) i (read_refused (held_adds y d))))

-- ---- calls of `read_block` on whatever parts the file is read in, and then of `read_last`

pub data Calls : Names → ℕ → List ℕ → ℕ → List (List ℕ) → Names → Result ℕ Refusal → Type 0 where
  ends : {m : Names} {n : ℕ} {l : List ℕ} {h : ℕ} {m' : Names} {a : Result ℕ Refusal} → ReadsLast m n l h m' a → Calls m n l h [] m' a
  reads : {m : Names} {n : ℕ} {l : List ℕ} {h : ℕ} {c : List ℕ} {cs : List (List ℕ)} {s : ReadState} {m' : Names} {a : Result ℕ Refusal}
      → ReadsBlock c (read_state 0 m n l h) (going s) → Calls s.held_in s.lines s.line s.held cs m' a → Calls m n l h (c ∷ cs) m' a
  refused : {m : Names} {n : ℕ} {l : List ℕ} {h : ℕ} {c : List ℕ} {cs : List (List ℕ)} {m' : Names} {l' : List ℕ} {f : Refusal}
      → ReadsBlock c (read_state 0 m n l h) (stopped m' l' f) → Calls m n l h (c ∷ cs) m' (Err f)

one_line : {m : Names} {n : ℕ} {p : List ℕ} {m' : Names} (a : Result ℕ Refusal) → Adds m n p m' a → Reading m n (p ∷ []) m' a
one_line (Ok k) x = read_on x read_all
one_line (Err f) x = read_refused x

last_reads : {m : Names} {n : ℕ} {l : List ℕ} {h : ℕ} {m' : Names} {a : Result ℕ Refusal} {hs : List House} {p : List ℕ} → Holding (read_state 0 m n l h) hs p → ReadsLast m n l h m' a → Comes (p ++ []) m n m' a
last_reads {a = a} {p = p} g (ReadsLast.one_more k d) =
    (p ∷ [], subst (λ (x : List ℕ). Lines x (p ∷ [])) (sym (append-nil p)) (Lines.last g.unended (holds_some g.line_holds k)), one_line a (held_adds g.line_holds d))
last_reads g (ReadsLast.no_count k) = absurd (omega (arith, g.count, g.memory_holds.few))
last_reads {p = p} g (ReadsLast.no_more k) = ([], subst (λ (x : List ℕ). Lines (x ++ []) []) (sym (holds_nothing p g.line_holds refl)) Lines.none, read_all)

calls_read : {m : Names} {n : ℕ} {l : List ℕ} {h : ℕ} {cs : List (List ℕ)} {m' : Names} {a : Result ℕ Refusal} (hs : List House) (p : List ℕ) → Holding (read_state 0 m n l h) hs p → Calls m n l h cs m' a → Comes (p ++ joined cs) m n m' a
calls_read hs p g (Calls.ends r) = last_reads g r
calls_read {m' = m'} {a} hs p g (Calls.reads {cs = cs} r v) = block_reads (joined cs) m' a hs p r g (λ ks q t. calls_read ks q (from_front t) v)
calls_read {m' = m'} hs p g (Calls.refused {cs = cs} r) = block_reads (joined cs) m' _ hs p r g (refl, refl)

-- read into memory that holds nothing, a file comes to its meaning, whatever its parts
pub calls_catalogue : {m : Names} {l : List ℕ} {cs : List (List ℕ)} {m' : Names} {a : Result ℕ Refusal} → length l ≡ longest_read → Holds m [] → Calls m 0 l 0 cs m' a → Read (joined cs) m' a
calls_catalogue {m} {l} e g r =
    let (ls, w, v) = calls_read [] [] (record { memory_holds = g; count = refl; buffer = e; line_holds = holds_none l; unended = Without.none }) r in
    reads_catalogue w g v

-- so it does not matter in what parts it comes
pub any_reads : {m₁ m₂ : Names} {l₁ l₂ : List ℕ} {cs ds : List (List ℕ)} {m₃ m₄ : Names} {a b : Result ℕ Refusal} → length l₁ ≡ longest_read → length l₂ ≡ longest_read → Holds m₁ [] → Holds m₂ []
    → Calls m₁ 0 l₁ 0 cs m₃ a → Calls m₂ 0 l₂ 0 ds m₄ b → joined cs ≡ joined ds → a ≡ b
any_reads {m₃ = m₃} {m₄} {a} {b} i j g h r v e = read_one (calls_catalogue i g r) (subst (λ (x : List ℕ). Read x m₄ b) (sym e) (calls_catalogue j h v))
