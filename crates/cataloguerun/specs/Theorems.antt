-- THE THEOREM ON A PROGRAM'S CATALOGUE. A program that reads its catalogue as the turns say, and whose reads do not fail, comes to what the file
-- means, in whatever parts that is read (`run_reads`).
-- Assumes nothing.
use Rattle.std.specs.Prelude.{ℕ, ◌≤◌, min, ◌≡◌, refl, List, [], ◌∷◌, ◌++◌, length, take, Some, Result, Ok, Err}
use Rattle.std.proofs.Common.{◌∙◌, ap, subst, true≢false, append-nil}
use Rattle.std.proofs.Math.Nat.{min-eq_left}
use Rattle.refusals.specs.declared.Refusal.{Refusal}
use Rattle.filter.specs.Promise.{block_size, arrived_of}
use Rattle.textlines.specs.Lines.{longest_read, joined}
use Rattle.nametable.specs.declared.Names.{Names}
use Rattle.nametable.specs.Houses.{House}
use Rattle.nametable.specs.Holds.{Holds}
use Rattle.catalogue.specs.Catalogue.{catalogue, refused_by, Means}
use Rattle.catalogue.specs.Theorems.{Read, is_catalogue, is_refused}
use Rattle.catalogueread.specs.Promise.{ReadState, Reached, ReadsBlock}
use Rattle.catalogueread.specs.Theorems.{Calls, calls_catalogue}
use Rattle.cataloguerun.specs.declared.CatalogueRun.{CatalogueRun}
use Rattle.cataloguerun.specs.declared.CatalogueRun.TheVariants.{Reading, Ready, Refused}
use Rattle.cataloguerun.specs.Promise.{Advances, Closes, GoesOn}
use Rattle.cataloguerun.specs.Laws.{reads_in}

-- Turn after turn, where n lines and h bytes of an unfinished one are held: a read into the block b, and the next call. A read of no bytes tells that
-- the file has ended. Once a line is refused, the rest of the file is not read.
pub data Turns : ℕ → ℕ → Names → List ℕ → List ℕ → CatalogueRun → Names → Type 0 where
  reads : {n h x n' h' : ℕ} {m m' m'' : Names} {l l' b i : List ℕ} {r : CatalogueRun} (c : List ℕ) → length (x ∷ c) ≤ block_size → take (length (x ∷ c)) b ≡ x ∷ c
      → GoesOn b m l (Reading n h) (arrived_of (Some (length (x ∷ c)))) m' l' (Reading n' h') → Turns n' h' m' l' i r m'' → Turns n h m l ((x ∷ c) ++ i) r m''
  stops : {n h x : ℕ} {m m' : Names} {l l' b : List ℕ} {f : Refusal} (c i : List ℕ) → length (x ∷ c) ≤ block_size → take (length (x ∷ c)) b ≡ x ∷ c
      → GoesOn b m l (Reading n h) (arrived_of (Some (length (x ∷ c)))) m' l' (Refused f) → Turns n h m l ((x ∷ c) ++ i) (Refused f) m'
  ends : {n h : ℕ} {m m' : Names} {l l' b : List ℕ} {r : CatalogueRun} → GoesOn b m l (Reading n h) (arrived_of (Some 0)) m' l' r → Turns n h m l [] r m'

-- what it comes to: the memory holds the calendars of the file, or the run is refused as the file is
pub data ComesTo (house : List ℕ) : CatalogueRun → Names → Type 0 where
  ready : {hs : List House} {m : Names} → Means house (catalogue hs) → Holds m hs → ComesTo house Ready m
  refused : {f : Refusal} {m : Names} → Means house (refused_by f) → ComesTo house (Refused f) m

-- ---- the turns are calls of `read_block`, and then of `read_last`

data EndsAs : Result ℕ Refusal → CatalogueRun → Type 0 where
  as_ready : {n : ℕ} → EndsAs (Ok n) Ready
  as_refused : {f : Refusal} → EndsAs (Err f) (Refused f)

record Made (n h : ℕ) (m : Names) (l i : List ℕ) (r : CatalogueRun) (m' : Names) : Type 0 where
  parts : List (List ℕ)
  answer : Result ℕ Refusal
  calls : Calls m n l h parts m' answer
  all : joined parts ≡ i
  ends_as : EndsAs answer r

-- the bytes that came are those that are worked on
came : (b d : List ℕ) {s : ReadState} {e : Reached} → length d ≤ block_size → take (length d) b ≡ d → ReadsBlock (take (min (length d) block_size) b) s e → ReadsBlock d s e
came b d k e w = reads_in (ap (λ (j : ℕ). take j b) (min-eq_left k) ∙ e) w

made : {n h : ℕ} {m : Names} {l i : List ℕ} {r : CatalogueRun} {m' : Names} → Turns n h m l i r m' → Made n h m l i r m'
made (Turns.reads {x = x} {b = b} c k e (GoesOn.some (Advances.reads w)) v) =
    let g = made v in
    record { parts = (x ∷ c) ∷ g.parts; answer = g.answer; calls = Calls.reads (came b (x ∷ c) k e w) g.calls; all = ap (λ (y : List ℕ). (x ∷ c) ++ y) g.all; ends_as = g.ends_as }
made (Turns.reads c k e (GoesOn.over h) v) = absurd (true≢false h)
made (Turns.stops {x = x} {b = b} {f} c i k e (GoesOn.some (Advances.refuses w))) =
    record { parts = (x ∷ c) ∷ (i ∷ []); answer = Err f; calls = Calls.refused (came b (x ∷ c) k e w); all = ap (λ (y : List ℕ). (x ∷ c) ++ y) (append-nil i); ends_as = as_refused }
made (Turns.ends (GoesOn.no_more (Closes.closes w))) = record { parts = []; answer = _; calls = Calls.ends w; all = refl; ends_as = as_ready }
made (Turns.ends (GoesOn.no_more (Closes.refuses w))) = record { parts = []; answer = _; calls = Calls.ends w; all = refl; ends_as = as_refused }
made (Turns.ends (GoesOn.over h)) = absurd (true≢false h)

-- ---- the theorem

comes_to : {house : List ℕ} {a : Result ℕ Refusal} {r : CatalogueRun} {m : Names} → Read house m a → EndsAs a r → ComesTo house r m
comes_to (is_catalogue p g e) as_ready = ready p g
comes_to (is_refused p) as_refused = refused p

pub run_reads : {m m' : Names} {l house : List ℕ} {r : CatalogueRun} → length l ≡ longest_read → Holds m [] → Turns 0 0 m l house r m' → ComesTo house r m'
run_reads {m' = m'} k g w =
    let d = made w in
    comes_to (subst (λ (x : List ℕ). Read x m' d.answer) d.all (calls_catalogue k g d.calls)) d.ends_as
