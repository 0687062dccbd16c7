-- THE THEOREMS ON COMMA-SEPARATED TEXT.
-- A text comes to entries alone, with no refusal, exactly if it is empty or belongs to the grammar, and they are the fields of its records
-- (`file_of`, `of_file`). What it comes to is one thing (`reads_one` of `One`), and there is such a thing, whatever its bytes are (`reads_some` of
-- `Every`). So a text outside the grammar has one first fault, or records with another number of fields, and no text is read in two ways.
use Rattle.std.specs.Prelude.{ℕ, ◌+◌, ◌<◌, ◌≡◌, refl, ◌⊎◌, List, [], ◌∷◌, ◌++◌, length}
use Rattle.std.proofs.Common.{sym, ◌∙◌, ap, subst, inl, inr, ⊎_elim, append-nil, arith, length-append}
use Rattle.whole.specs.Text.{tab}
use Rattle.bytesearch.specs.Promise.{Without}
use Rattle.commatext.specs.Grammar.{comma, quote, TextData, QuotedByte, NonEscaped, Quoted, Field, Record, Pair, pair, File}
use Rattle.commatext.specs.Contents.{Outcome, entry, outcome_of, Reads}
use Rattle.commatext.specs.Laws.{below_text}

-- outcomes that are entries alone
pub data Entries : List Outcome → List Pair → Type 0 where
  none : Entries [] []
  more : {f g : List ℕ} {rs : List Outcome} {ps : List Pair} → Entries rs ps → Entries (entry f g ∷ rs) (pair f g ∷ ps)

-- ---- from the grammar

some_bytes : {l f g : List ℕ} → Record l (f ∷ g ∷ []) → 0 < length l
some_bytes (Record.more {l} {m = m} q r) = omega (arith, length-append l (comma ∷ m))

pub of_file : {s : List ℕ} {ps : List Pair} (o : ℕ) → File s ps → (rs : List Outcome) × Reads o s rs × Entries rs ps
of_file o (File.last {f = f} {g} p h) = (entry f g ∷ [], Reads.last p (some_bytes p) h, Entries.more Entries.none)
of_file o (File.closed {l} {f} {g} {e} p h x) = (entry f g ∷ [], subst (λ (y : List ℕ). Reads o (l ++ y) (entry f g ∷ [])) (append-nil e) (Reads.more p h x Reads.none), Entries.more Entries.none)
of_file o (File.more {l} {f} {g} {e} p h x r) = let (rs, q, t) = of_file (o + (length l + length e)) r in (entry f g ∷ rs, Reads.more p h x q, Entries.more t)

-- ---- to the grammar

-- an outcome that is an entry
two_fields : (o : ℕ) {f g : List ℕ} (fs : List (List ℕ)) → outcome_of o fs ≡ entry f g → fs ≡ f ∷ g ∷ []
two_fields o [] e = let z : ◌≡◌ {A = ℕ} 0 1 = cc in absurd (omega arith)
two_fields o (a ∷ []) e = let z : ◌≡◌ {A = ℕ} 0 1 = cc in absurd (omega arith)
two_fields o (a ∷ b ∷ []) e = cc
two_fields o (a ∷ b ∷ c ∷ fs) e = let z : ◌≡◌ {A = ℕ} 0 1 = cc in absurd (omega arith)

as_two : (o : ℕ) {l f g : List ℕ} {fs : List (List ℕ)} → Record l fs → outcome_of o fs ≡ entry f g → Record l (f ∷ g ∷ [])
as_two o {l = l} {fs = fs} p e = subst (Record l) (two_fields o fs e) p

no_entries : {rs : List Outcome} {ps : List Pair} → Entries rs ps → rs ≡ [] → ps ≡ []
no_entries Entries.none e = refl
no_entries (Entries.more t) e = absurd (omega (arith, ap length e))

file_from : {o : ℕ} {s : List ℕ} {ws rs : List Outcome} {ps : List Pair} → Reads o s ws → ws ≡ rs → Entries rs ps → ((s ≡ []) × (ps ≡ [])) ⊎ File s ps
file_from Reads.none e t = inl (refl, no_entries t (sym e))
file_from (Reads.last p h i) e Entries.none = absurd (omega (arith, ap length e))
file_from {o} (Reads.last {l = l} {fs} p h i) e (Entries.more {f} {g} {rs} t) =
    let d : outcome_of o fs ≡ entry f g = cc in
    let k : rs ≡ [] = cc in
    inr (subst (λ (x : List Pair). File l (pair f g ∷ x)) (sym (no_entries t k)) (File.last (as_two o p d) i))
file_from (Reads.more p i x r) e Entries.none = absurd (omega (arith, ap length e))
file_from {o} (Reads.more {l = l} {e = z} {s} {fs} {rs = ws} p i x r) e (Entries.more {f} {g} {rs} {ps} t) =
    let d : outcome_of o fs ≡ entry f g = cc in
    let k : ws ≡ rs = cc in
    ⊎_elim
    (λ n. inr (subst (λ (y : List ℕ). File (l ++ y) (pair f g ∷ ps)) (sym (ap (λ (y : List ℕ). z ++ y) n.0 ∙ append-nil z)) (subst (λ (y : List Pair). File (l ++ z) (pair f g ∷ y)) (sym n.1) (File.closed (as_two o p d) i x))))
    (λ n. inr (File.more (as_two o p d) i x n))
    (file_from r k t)
file_from (Reads.stops b v) e Entries.none = absurd (omega (arith, ap length e))
file_from (Reads.stops b v) e (Entries.more t) = let z : ◌≡◌ {A = ℕ} 0 1 = cc in absurd (omega arith)

pub file_of : {o : ℕ} {s : List ℕ} {rs : List Outcome} {ps : List Pair} → Reads o s rs → Entries rs ps → ((s ≡ []) × (ps ≡ [])) ⊎ File s ps
file_of r t = file_from r refl t

-- ---- a field holds no tab, so its name ends a line's name

no_tab_text : {b : ℕ} → TextData b → b ≡ tab → ⊥
no_tab_text t e = below_text (omega arith) t

no_tab_quoted : {b : ℕ} → QuotedByte b → b ≡ tab → ⊥
no_tab_quoted (QuotedByte.text t) e = no_tab_text t e
no_tab_quoted (QuotedByte.a_comma d) e = omega arith
no_tab_quoted (QuotedByte.a_return d) e = omega arith
no_tab_quoted (QuotedByte.a_feed d) e = omega arith

no_tab_quote : quote ≡ tab → ⊥
no_tab_quote e = omega arith

pub field_without_tab : {l f : List ℕ} → Field l f → Without tab f
field_without_tab (Field.escaped q) = go q
  where
    go : {l f : List ℕ} → Quoted l f → Without tab f
    go Quoted.none = Without.none
    go (Quoted.byte t r) = Without.more (no_tab_quoted t) (go r)
    go (Quoted.twice r) = Without.more no_tab_quote (go r)
field_without_tab (Field.non_escaped q) = go q
  where
    go : {l : List ℕ} → NonEscaped l → Without tab l
    go NonEscaped.none = Without.none
    go (NonEscaped.more t r) = Without.more (no_tab_text t) (go r)
