-- From what the calls below say to the promises.
-- Assumes nothing.
use Rattle.std.specs.Prelude.{ℕ, ◌+◌, ◌≤◌, ◌<◌, ◌≡◌, refl, List, ◌++◌, length, take, Result, Err}
use Rattle.std.specs.Result.{result_unwrap_or}
use Rattle.std.proofs.Common.{sym, ◌∙◌, ap, ap₂, subst, zero-add, arith, length-append}
use Rattle.whole.specs.Text.{bytes}
use Rattle.writer.specs.Promise.{put, Puts, Writes}
use Rattle.writer.proofs.PutLaws.{put_then, length_put}
use Rattle.refusals.specs.declared.Refusal.{Refusal}
use Rattle.columns.specs.Columns.{header}
use Rattle.columns.specs.Promise.{PutsHeader}
use Rattle.listing.specs.Promise.{LastLine, BlockState, block_state, Lists}
use Rattle.listing.specs.Laws.{held_short}
use Rattle.filter.specs.declared.Phase.TheVariants.{Reading, Midway, Closing}
use Rattle.filter.specs.declared.Event.{Event}
use Rattle.filter.specs.declared.State.{State}
use Rattle.filter.specs.Promise.{state_with_value, block_size}
use Rattle.linetext.specs.Line.{longest_line}
use Rattle.linetext.specs.Promise.{LineOut}
use Rattle.nametable.specs.declared.Names.{Names}
use Rattle.catalogue.specs.Promise.{NamesIn}
use Rattle.cataloguerun.specs.declared.CatalogueRun.{CatalogueRun}
use Rattle.listrun.specs.Promise.{Begins, Refuses, Starts, state_at_value, Advances, Closes, GoesOn}

-- ---- a text that is no longer than the longest line has room in the output

-- what is put where there is room for it
puts_done : {t b b' : List ℕ} {i : ℕ} {r : Result ℕ Refusal} → i + length t ≤ length b → Puts t b i b' r → (b' ≡ put b i t) × (result_unwrap_or r 0 ≡ i + length t)
puts_done k (Puts.done h) = (refl, refl)
puts_done k (Puts.short h) = absurd (omega arith)

module _ {P : List ℕ → Type 0} {o : List ℕ} (short : (t : List ℕ) → P t → length t ≤ longest_line) (long : length o ≡ block_size) where
  -- so it was written
  written : {r : Result ℕ Refusal} {o' : List ℕ} → Writes P o 0 o' r → (t : List ℕ) × P t × (o' ≡ put o 0 t) × (result_unwrap_or r 0 ≡ length t)
  written (Writes.writes {t} p w) = let (u, v) = puts_done (omega (arith, short t p)) w in (t, p, u, v ∙ zero-add (length t))

last_short : (m : Names) (l : List ℕ) (n : ℕ) (t : List ℕ) → LastLine (NamesIn m) l n t → length t ≤ longest_line
last_short m l n t LastLine.no_more = omega arith
last_short m l n t (LastLine.one_more h x) = held_short x

header_short : (t : List ℕ) → t ≡ header → length t ≤ longest_line
unfolding header bytes
header_short t e = omega (arith, ap length e)

module _ {o o' : List ℕ} (long : length o ≡ block_size) where
  pub begins_with : {r : Result ℕ Refusal} {n : ℕ} {s : State} → PutsHeader o 0 o' r → n ≡ result_unwrap_or r 0 → s ≡ state_with_value Reading n → Begins o o' s
  begins_with w d e =
      let (t, p, q, k) = written header_short long w in
      subst (Begins o o') (sym (e ∙ ap (state_with_value Reading) (d ∙ k ∙ ap length p))) (subst (λ (x : List ℕ). Begins o x (state_with_value Reading (length header))) (sym (q ∙ ap (put o 0) p)) Begins.begins)

  pub closes_with : {m : Names} {l : List ℕ} {h : ℕ} {r : Result ℕ Refusal} {n : ℕ} {s : State} → Writes (LastLine (NamesIn m) l h) o 0 o' r → n ≡ result_unwrap_or r 0 → s ≡ state_with_value Closing n → Closes m l h o o' s
  closes_with {m} {l} {h} w d e =
      let (t, p, q, k) = written (last_short m l h) long w in
      subst (Closes m l h o o') (sym (e ∙ ap (state_with_value Closing) (d ∙ k))) (subst (λ (x : List ℕ). Closes m l h o x (state_with_value Closing (length t))) (sym q) (Closes.closes p))

-- ---- a catalogue that is refused

module _ {o o₁ : List ℕ} {r : Result ℕ Refusal} {i : ℕ} (long : length o ≡ block_size) (w : PutsHeader o 0 o₁ r) (at_is : i ≡ result_unwrap_or r 0) where
  header_put : (o₁ ≡ put o 0 header) × (i ≡ length header) × (length o₁ ≡ block_size) × (length header ≤ longest_line)
  header_put =
      let (t, p, q, k) = written header_short long w in
      let e : o₁ ≡ put o 0 header = q ∙ ap (put o 0) p in
      let h : length header ≤ longest_line = header_short header refl in
      (e, at_is ∙ k ∙ ap length p, ap length e ∙ length_put o 0 header (omega arith) ∙ long, h)

  pub refuses_with : {f : Refusal} {o₂ : List ℕ} {r₂ : Result ℕ Refusal} {n : ℕ} {s : State} → Writes (LineOut (Err f)) o₁ i o₂ r₂ → n ≡ result_unwrap_or r₂ 0 → s ≡ state_with_value Closing n → Refuses f o o₂ s
  refuses_with {f} {o₂} {n = n} {s} (Writes.writes {t} p w) g e =
      let (a, b, c, d) = header_put in
      let (u, v) = puts_done (omega (arith, p.short)) w in
      let q : put o₁ i t ≡ put o 0 (header ++ t) = ap₂ (λ (x : List ℕ) (j : ℕ). put x j t) a (b ∙ sym (zero-add (length header))) ∙ put_then o 0 header t (omega arith) in
      subst (λ (x : List ℕ). Refuses f o x s) (sym u)
      (subst (Refuses f o (put o₁ i t)) (sym (e ∙ ap (state_with_value Closing) (g ∙ v ∙ ap (λ (j : ℕ). j + length t) b ∙ sym (length-append header t))))
      (subst (λ (x : List ℕ). Refuses f o x (state_with_value Closing (length (header ++ t)))) (sym q) (Refuses.refuses p)))

pub starts : {run r : CatalogueRun} {o o' : List ℕ} {s : State} → run ≡ r → Starts r o o' s → Starts run o o' s
starts {o = o} {o'} {s} q w = subst (λ (v : CatalogueRun). Starts v o o' s) (sym q) w

-- ---- a turn

lists_in : {m : Names} {c d : List ℕ} {s e : BlockState} → c ≡ d → Lists (NamesIn m) c s e → Lists (NamesIn m) d s e
lists_in {m} {s = s} {e} q w = subst (λ (x : List ℕ). Lists (NamesIn m) x s e) q w

module _ {m : Names} {b c l o l' o' : List ℕ} {from n h at h' u : ℕ} {s : State} (e : c ≡ take n b) (w : Lists (NamesIn m) c (block_state from l h o 0) (block_state at l' h' o' u)) where
  pub stays_within : at < n → s ≡ state_at_value Midway at n h' u → Advances m b l o from n h l' o' s
  stays_within i q = subst (Advances m b l o from n h l' o') (sym q) (Advances.within (lists_in e w) i)

  pub uses_up : n ≤ at → s ≡ state_at_value Reading at n h' u → Advances m b l o from n h l' o' s
  uses_up i q = subst (Advances m b l o from n h l' o') (sym q) (Advances.used_up (lists_in e w) i)

-- by what has happened
pub goes : {m : Names} {b l o l' o' : List ℕ} {s s' : State} {x y z : Event} → x ≡ z → x ≡ y → GoesOn m b l o s y l' o' s' → GoesOn m b l o s z l' o' s'
goes {m} {b} {l} {o} {l'} {o'} {s} {s'} e f t = subst (λ (v : Event). GoesOn m b l o s v l' o' s') (sym f ∙ e) t
