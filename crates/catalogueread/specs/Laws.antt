-- What the proofs need: line after line, what is still to come leads from where the block was begun.
-- Assumes nothing.
use Rattle.std.specs.Prelude.{ℕ, ◌≤◌, ◌<◌, ◌≡◌, List, length, Result, Ok}
use Rattle.std.proofs.Common.{subst, arith}
use Rattle.nametable.specs.Limits.{most_lines}
use Rattle.nametable.specs.declared.Names.{Names}
use Rattle.catalogueread.specs.Promise.{made_up_value, AddsHeld, ReadState, going, Reached, ReadsNext, ReadsBlock, ReadsLast}
use Rattle.refusals.specs.declared.Refusal.{Refusal}

abbrev pub Leads : List ℕ → ReadState → ReadState → Type 0
Leads b s t = (e : Reached) → ReadsBlock b t e → ReadsBlock b s e

pub leads_on : {b : List ℕ} {s t u : ReadState} → Leads b s t → t.at < length b → ReadsNext b t (going u) → Leads b s u
leads_on g h w = λ e r. g e (ReadsBlock.goes_on h w r)

-- ---- the end of the file, where a line is held

pub last_more : {m : Names} {n : ℕ} {l : List ℕ} {h : ℕ} {m' : Names} {a : Result ℕ Refusal} → 0 < h → AddsHeld m n l h m' a → ReadsLast m n l h m' a
last_more = ReadsLast.one_more

-- ---- and where nothing is held

module _ {m : Names} {n : ℕ} {l : List ℕ} {h : ℕ} (k : h ≤ 0) where
  nothing : {a : Result ℕ Refusal} → ReadsLast m n l 0 m a → ReadsLast m n l h m a
  nothing {a} r = let e : 0 ≡ h = omega arith in subst (λ (x : ℕ). ReadsLast m n l x m a) e r

  pub last_made_up : most_lines < n → ReadsLast m n l h m made_up_value
  last_made_up i = nothing (ReadsLast.no_count i)

  pub last_none : n ≤ most_lines → ReadsLast m n l h m (Ok n)
  last_none i = nothing (ReadsLast.no_more i)
