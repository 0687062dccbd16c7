-- Two results that a promise of the listing allows for one input are equal, where a name has one answer; and a catalogue and an input have one listing.
-- Assumes nothing.
use Rattle.std.specs.Prelude.{ℕ, ◌+◌, ◌≡◌, refl, List, ◌++◌, length, take, Result, Err}
use Rattle.std.proofs.Common.{sym, ap, subst, ◌∙◌, ap₂, arith}
use Rattle.refusals.specs.declared.Refusal.{Refusal}
use Rattle.calendar.specs.RowLaws.{One}
use Rattle.bytesearch.specs.One.{never}
use Rattle.nametable.specs.Houses.{House}
use Rattle.catalogue.specs.Catalogue.{catalogue, refused_by, NamesWith}
use Rattle.catalogue.proofs.One.{means_one}
use Rattle.catalogue.proofs.Theorems.{names_with_one}
use Rattle.writer.specs.Promise.{put, Writes}
use Rattle.writer.specs.One.{writes_one}
use Rattle.entry.specs.One.{line_answer_one}
use Rattle.linetext.specs.One.{ended_one}
use Rattle.columns.specs.Columns.{line_of, header}
use Rattle.columns.specs.One.{ended_same}
use Rattle.entry.specs.Promise.{Naming, LineAnswer}
use Rattle.textlines.specs.One.{lines_one, takes_rest_one, takes_line_one, rest_or_line}
use Rattle.linetext.specs.Line.{Ended}
use Rattle.listing.specs.Promise.{HeldAnswer, HeldAs, HeldLine, LastLine, BlockState, block_state, NextLine, Lists}
use Rattle.listing.specs.Lines.{Listed, listed, AllListed, Listing, listing, refused}
use Rattle.calendar.specs.declared.Date.{Date}
use Rattle.linetext.specs.declared.LineNumbers.{LineNumbers}

-- ---- states that are the same in each of their parts

same_state : {at at' : ℕ} {l l' : List ℕ} {n n' : ℕ} {o o' : List ℕ} {u u' : ℕ} → at ≡ at' → l ≡ l' → n ≡ n' → o ≡ o' → u ≡ u' → block_state at l n o u ≡ block_state at' l' n' o' u'
same_state {at} {at'} {l} {l'} {n} {n'} {o} {o'} {u} {u'} a b c d e =
    ap (λ (x : ℕ). block_state x l n o u) a ∙ ap (λ (x : List ℕ). block_state at' x n o u) b ∙ ap (λ (x : ℕ). block_state at' l' x o u) c ∙ ap (λ (x : List ℕ). block_state at' l' n' x u) d ∙ ap (λ (x : ℕ). block_state at' l' n' o' x) e

module _ {N : Naming} (names_one : (s : List ℕ) → One (N s)) where
  -- ---- the line that is held

  held_answer_one : {l : List ℕ} {n : ℕ} {a c : Result Date Refusal} → HeldAnswer N l n a → HeldAnswer N l n c → a ≡ c
  held_answer_one {l} {n} {a} {c} (HeldAnswer.short h p) (HeldAnswer.short k q) = line_answer_one names_one (take n l) a c p q
  held_answer_one (HeldAnswer.short h p) (HeldAnswer.long k) = absurd (omega arith)
  held_answer_one (HeldAnswer.long h) (HeldAnswer.short k q) = absurd (omega arith)
  held_answer_one (HeldAnswer.long h) (HeldAnswer.long k) = refl

  pub held_as_one : {l : List ℕ} {n : ℕ} {m k : Result LineNumbers Refusal} → HeldAs N l n m → HeldAs N l n k → m ≡ k
  held_as_one (HeldAs.held_as p) (HeldAs.held_as q) = ap line_of (held_answer_one p q)

  pub held_line_one : {l m : List ℕ} {n k : ℕ} {t u : List ℕ} → l ≡ m → n ≡ k → HeldLine N l n t → HeldLine N m k u → t ≡ u
  held_line_one {l} {m} {n} {k} e f (HeldLine.held_line p x) (HeldLine.held_line {a = c} q y) =
      ended_same (held_answer_one p (subst (λ (i : List ℕ). HeldAnswer N i n c) (sym e) (subst (λ (i : ℕ). HeldAnswer N m i c) (sym f) q))) x.is y.is

  pub last_line_one : {l : List ℕ} {n : ℕ} {t u : List ℕ} → LastLine N l n t → LastLine N l n u → t ≡ u
  last_line_one LastLine.no_more LastLine.no_more = refl
  last_line_one LastLine.no_more (LastLine.one_more h q) = absurd (omega arith)
  last_line_one (LastLine.one_more h p) LastLine.no_more = absurd (omega arith)
  last_line_one (LastLine.one_more h p) (LastLine.one_more k q) = held_line_one refl refl p q

  pub list_last_one : {l : List ℕ} {n : ℕ} {b b₁ b₂ : List ℕ} {at : ℕ} {r₁ r₂ : Result ℕ Refusal} → Writes (LastLine N l n) b at b₁ r₁ → Writes (LastLine N l n) b at b₂ r₂ → (b₁ ≡ b₂) × (r₁ ≡ r₂)
  list_last_one = writes_one (λ t u x y. last_line_one x y)

  -- ---- lines have one text

  listed_is : {l t : List ℕ} → Listed N l t → (a : Result Date Refusal) × LineAnswer N l a × Ended (line_of a) t
  listed_is (listed {a} q x) = (a, q, x)

  pub listed_one : {l t u : List ℕ} → Listed N l t → Listed N l u → t ≡ u
  listed_one {l} p q =
      let (a, x, y) = listed_is p in
      let (c, v, w) = listed_is q in
      ended_same (line_answer_one names_one l a c x v) y w

  pub all_listed_one : {ls : List (List ℕ)} {t u : List ℕ} → AllListed N ls t → AllListed N ls u → t ≡ u
  all_listed_one AllListed.none AllListed.none = refl
  all_listed_one (AllListed.next p r) (AllListed.next q s) = ap₂ (λ (t u : List ℕ). t ++ u) (listed_one p q) (all_listed_one r s)

  -- ---- a block

  next_line_one : {b : List ℕ} {s t v : BlockState} → NextLine N b s t → NextLine N b s v → t ≡ v
  next_line_one (NextLine.rest f) (NextLine.rest f') = let (i, l, n) = takes_rest_one f f' in same_state i l n refl refl
  next_line_one (NextLine.rest f) (NextLine.line f' g' m') = absurd (rest_or_line f f')
  next_line_one (NextLine.line f g m) (NextLine.rest f') = absurd (rest_or_line f' f)
  next_line_one {s = s} (NextLine.line f g m) (NextLine.line f' g' m') =
      let (i, l, n) = takes_line_one f f' in
      let t = held_line_one l n g g' in
      same_state i l refl (ap (put s.out s.used) t) (ap (λ (x : List ℕ). s.used + length x) t)

  pub lists_one : {b : List ℕ} {s e f : BlockState} → Lists N b s e → Lists N b s f → e ≡ f
  lists_one (Lists.block_ends h) (Lists.block_ends k) = refl
  lists_one (Lists.block_ends h) (Lists.out_of_room k) = refl
  lists_one (Lists.block_ends h) (Lists.goes_on i j w l) = absurd (omega arith)
  lists_one (Lists.out_of_room h) (Lists.block_ends k) = refl
  lists_one (Lists.out_of_room h) (Lists.out_of_room k) = refl
  lists_one (Lists.out_of_room h) (Lists.goes_on i j w l) = absurd (omega arith)
  lists_one (Lists.goes_on i j w l) (Lists.block_ends k) = absurd (omega arith)
  lists_one (Lists.goes_on i j w l) (Lists.out_of_room k) = absurd (omega arith)
  lists_one {b} {f = f} (Lists.goes_on i j w l) (Lists.goes_on i' j' w' l') = lists_one l (subst (λ (t : BlockState). Lists N b t f) (sym (next_line_one w w')) l')

  -- ---- what is written for a line

  pub list_line_one : {l : List ℕ} {b b₁ b₂ : List ℕ} {at : ℕ} {r₁ r₂ : Result ℕ Refusal} → Writes (Listed N l) b at b₁ r₁ → Writes (Listed N l) b at b₂ r₂ → (b₁ ≡ b₂) × (r₁ ≡ r₂)
  list_line_one = writes_one (λ t u x y. listed_one x y)

-- ---- a catalogue and an input have one listing

pub listing_one : {house input t u : List ℕ} → Listing house input t → Listing house input u → t ≡ u
listing_one (listing {hs} {ls} m p q) (listing {hs = ks} {t = u} m' p' q') =
    let e : catalogue hs ≡ catalogue ks = means_one m m' in
    let d : hs ≡ ks = cc in
    ap (λ (x : List ℕ). header ++ x) (all_listed_one (names_with_one m) q (subst (λ (x : List House). AllListed (NamesWith x) ls u) (sym d) (subst (λ (x : List (List ℕ)). AllListed (NamesWith ks) x u) (sym (lines_one p p')) q')))
listing_one (listing {hs} m p q) (refused {f} m' x) = let e : catalogue hs ≡ refused_by f = means_one m m' in let z : ◌≡◌ {A = ℕ} 0 1 = cc in absurd (never z)
listing_one (refused {f} m x) (listing {hs} m' p q) = let e : refused_by f ≡ catalogue hs = means_one m m' in let z : ◌≡◌ {A = ℕ} 0 1 = cc in absurd (never z)
listing_one (refused {f} m x) (refused {f = g} {t = u} m' y) =
    let e : refused_by f ≡ refused_by g = means_one m m' in
    let d : f ≡ g = cc in
    ap (λ (s : List ℕ). header ++ s) (ended_one x (subst (λ (h : Refusal). Ended (Err h) u) (sym d) y))
