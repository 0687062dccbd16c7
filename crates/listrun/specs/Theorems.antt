-- THE THEOREMS ON A RUN OF THE LISTING. A program that has read its catalogue, does what the turns say, and whose reads and writes do not fail,
-- writes the listing of its catalogue and its input, whatever parts these come in (`run_lists`); so two runs on them write the same (`any_run`).
-- Where the catalogue is refused the input is not read (`run_refused`). A turn within a block goes further in it (`goes_further`): no block holds a
-- program for ever.
-- Assumes nothing.
use Rattle.std.specs.Prelude.{ℕ, ◌+◌, ◌-◌, ◌≤◌, ◌<◌, ◌≡◌, refl, true, false, List, [], ◌∷◌, ◌++◌, length, take, drop, Some}
use Rattle.std.proofs.Common.{sym, ◌∙◌, ap, subst, true≢false, append_assoc, append-nil, arith, length-take, take-append-drop, drop_of_length-le, take_at, drop-drop}
use Rattle.std.proofs.Math.Nat.{min-eq_left}
use Rattle.writer.specs.Promise.{put}
use Rattle.columns.specs.Columns.{header}
use Rattle.listing.specs.Lines.{Listing}
use Rattle.listing.specs.Promise.{block_state, Lists}
use Rattle.listing.specs.Laws.{lists_on, lists_grow}
use Rattle.listing.specs.One.{listing_one}
use Rattle.textlines.specs.Lines.{joined}
use Rattle.listing.specs.Theorems.{Calls, calls_list, refused_lists}
use Rattle.refusals.specs.declared.Refusal.{Refusal}
use Rattle.nametable.specs.declared.Names.{Names}
use Rattle.catalogue.specs.Promise.{NamesIn}
use Rattle.catalogue.specs.Catalogue.{refused_by, Means}
use Rattle.cataloguerun.specs.declared.CatalogueRun.{CatalogueRun}
use Rattle.cataloguerun.specs.Theorems.{ComesTo, ready, refused}
use Rattle.filter.specs.declared.Phase.{Phase}
use Rattle.filter.specs.declared.Phase.TheVariants.{Reading, Midway, Closing, Failing, Ended}
use Rattle.filter.specs.declared.State.{State}
use Rattle.filter.specs.declared.Stream.TheVariants.{Output}
use Rattle.filter.specs.Promise.{goes_on_value, output_of, room_of, event_of, event_in, block_size}
use Rattle.entry.specs.Entry.{longest_entry}
use Rattle.linetext.specs.Line.{longest_line}
use Rattle.listrun.specs.Promise.{Begins, Refuses, Starts, Advances, Closes, GoesOn}

-- ---- what a program does

-- A read of at most m bytes into the block b: c came, and stands at the front of the block. What lies past the m bytes is as it was.
pub record Reads (m : ℕ) (b c b' : List ℕ) : Type 0 where
  pub short : length c ≤ m
  pub front : take (length c) b' ≡ c
  pub rest : drop m b' ≡ drop m b

module _ (m : Names) where
  -- Turn after turn: the front of the output o is written, a read is made, and the next turn is asked for. The input is all that was read, and the text
  -- all that was written to standard output.
  pub data Turns : State → List ℕ → List ℕ → List ℕ → List ℕ → List ℕ → Type 0 where
    over : {s : State} {b l o : List ℕ} → goes_on_value s.phase ≡ false → Turns s b l o [] []
    turn : {s s' : State} {b b' l l' o o' c i t : List ℕ} → goes_on_value s.phase ≡ true → output_of s.phase ≡ Output → Reads (room_of s.phase true) b c b'
        → GoesOn m b' l o s (event_of s true (Some (length c))) l' o' s' → Turns s' b' l' o' i t → Turns s b l o (c ++ i) (take s.used o ++ t)

  -- ---- what is still to come, by the phase

  -- calls of `list_block` on parts that are, joined, the bytes x
  record Comes (s : State) (l o x t : List ℕ) : Type 0 where
    parts : List (List ℕ)
    lines : List ℕ
    calls : Calls (NamesIn m) l s.held parts lines
    all : joined parts ≡ x
    text : t ≡ take s.used o ++ lines

  data After (s : State) (b l o i t : List ℕ) : Phase → Type 0 where
    reading : Comes s l o i t → After s b l o i t Reading
    midway : Comes s l o (drop s.at (take s.count b) ++ i) t → After s b l o i t Midway
    closing : i ≡ [] → t ≡ take s.used o → After s b l o i t Closing
    failing : After s b l o i t Failing
    ended : i ≡ [] → t ≡ [] → After s b l o i t Ended

  split : (a e : ℕ) (x : List ℕ) → a ≤ e → drop a x ≡ take (e - a) (drop a x) ++ drop e x
  split a e x h =
      let k : a + (e - a) ≡ e = omega arith in
      sym (take-append-drop (e - a) (drop a x)) ∙ ap (λ (y : List ℕ). take (e - a) (drop a x) ++ y) (drop-drop (e - a) a x ∙ ap (λ (j : ℕ). drop j x) k)

  none_left : (n e : ℕ) (b : List ℕ) → n ≤ e → drop e (take n b) ≡ []
  none_left n e b h = drop_of_length-le (take n b) {i = e} (omega (arith, length-take n b))

  -- calls on parts that are, joined, the bytes x, with n bytes held in l before them
  record Goes (l : List ℕ) (n : ℕ) (x t : List ℕ) : Type 0 where
    parts : List (List ℕ)
    calls : Calls (NamesIn m) l n parts t
    all : joined parts ≡ x

  -- lines of the bytes x, and then what comes after them: the bytes from the offset on are taken first
  takes : {x l o l' o' : List ℕ} {from h at h' u : ℕ} {t : List ℕ} (i : List ℕ) → Lists (NamesIn m) x (block_state from l h o 0) (block_state at l' h' o' u) → (cs : List (List ℕ)) (v : List ℕ) → Calls (NamesIn m) l' h' cs v → joined cs ≡ drop at x ++ i → t ≡ take u o' ++ v
      → Goes l h (drop from x ++ i) t
  takes {x} {l} {o} {l'} {o'} {from} {h} {at} {h'} {u} {t} i w cs v c d f =
      let e : drop from x ≡ take (at - from) (drop from x) ++ drop at x = split from at x (lists_on w) in
      record {
        parts = take (at - from) (drop from x) ∷ cs;
        calls = subst (Calls (NamesIn m) l h (take (at - from) (drop from x) ∷ cs)) (sym f) (Calls.reads w e c);
        all = ap (λ (q : List ℕ). take (at - from) (drop from x) ++ q) d ∙ sym (append_assoc (take (at - from) (drop from x)) (drop at x) i) ∙ ap (λ (q : List ℕ). q ++ i) (sym e);
      }

  advance_goes : {b l o : List ℕ} {from n h : ℕ} {l' o' : List ℕ} {s' : State} {i t : List ℕ} → Advances m b l o from n h l' o' s' → After s' b l' o' i t s'.phase → Goes l h (drop from (take n b) ++ i) t
  advance_goes {b} {n = n} {i = i} (Advances.used_up {at = at} w k) (After.reading c) = takes i w c.parts c.lines c.calls (c.all ∙ ap (λ (q : List ℕ). q ++ i) (sym (none_left n at b k))) c.text
  advance_goes {i = i} (Advances.within w k) (After.midway c) = takes i w c.parts c.lines c.calls c.all c.text

  -- ---- a turn, by the phase
  put_front : (o t : List ℕ) → take (length t) (put o 0 t) ≡ t
  put_front o t = take_at t (drop (0 + length t) o) (length t) refl

  closing_turn : {s s' : State} {a b l l' o o' i t : List ℕ} → GoesOn m b l o s (event_in Closing s.at s.count true (Some 0)) l' o' s' → After s' b l' o' i t s'.phase → After s a l o i (take s.used o ++ t) Closing
  closing_turn {s} {o = o} GoesOn.ends (After.ended e f) = After.closing e (ap (λ (x : List ℕ). take s.used o ++ x) f ∙ append-nil (take s.used o))

  midway_turn : {s s' : State} {b l l' o o' i t : List ℕ} → GoesOn m b l o s (event_in Midway s.at s.count true (Some 0)) l' o' s' → After s' b l' o' i t s'.phase → After s b l o i (take s.used o ++ t) Midway
  midway_turn {t = t} (GoesOn.works_on a) c = let g = advance_goes a c in After.midway (record { parts = g.parts; lines = t; calls = g.calls; all = g.all; text = refl })

  reading_turn : {s s' : State} {a b l l' o o' i t : List ℕ} (c : List ℕ) → length c ≤ block_size → take (length c) b ≡ c → GoesOn m b l o s (event_in Reading s.at s.count true (Some (length c))) l' o' s' → After s' b l' o' i t s'.phase
      → After s a l o (c ++ i) (take s.used o ++ t) Reading
  reading_turn {s} {o = o} [] h e (GoesOn.last_line (Closes.closes {t = u} x)) (After.closing f g) =
      After.reading (record { parts = []; lines = u; calls = Calls.ends x; all = sym f; text = ap (λ (y : List ℕ). take s.used o ++ y) (g ∙ put_front o u) })
  reading_turn {b = b} {i = i} {t} (x ∷ c) h e (GoesOn.works_on a) q =
      let g = advance_goes a q in
      After.reading (record { parts = g.parts; lines = t; calls = g.calls; all = g.all ∙ ap (λ (y : List ℕ). y ++ i) (ap (λ (k : ℕ). take k b) (min-eq_left h) ∙ e); text = refl })

  turn_follows : (p : Phase) {s s' : State} {b b' l l' o o' i t : List ℕ} (c : List ℕ) → goes_on_value p ≡ true → Reads (room_of p true) b c b' → GoesOn m b' l o s (event_in p s.at s.count true (Some (length c))) l' o' s' → After s' b' l' o' i t s'.phase
      → After s b l o (c ++ i) (take s.used o ++ t) p
  turn_follows Reading c e r g q = reading_turn c r.short r.front g q
  turn_follows Midway {s} {s'} {b} {b'} {l} {l'} {o} {o'} {i} {t} [] e r g q =
      subst (λ (x : List ℕ). After s x l o i (take s.used o ++ t) Midway) r.rest (midway_turn g q)
  turn_follows Midway (x ∷ c) e r g q = absurd (omega (arith, r.short))
  turn_follows Closing [] e r g q = closing_turn g q
  turn_follows Closing (x ∷ c) e r g q = absurd (omega (arith, r.short))
  turn_follows Failing c e r g q = After.failing
  turn_follows Ended c e r g q = absurd (true≢false (sym e))

  none_follow : (p : Phase) {s : State} {b l o : List ℕ} → goes_on_value p ≡ false → After s b l o [] [] p
  none_follow Reading e = absurd (true≢false e)
  none_follow Midway e = absurd (true≢false e)
  none_follow Closing e = absurd (true≢false e)
  none_follow Failing e = absurd (true≢false e)
  none_follow Ended e = After.ended refl refl

  follows : {s : State} {b l o i t : List ℕ} → Turns s b l o i t → After s b l o i t s.phase
  follows (Turns.over {s} e) = none_follow s.phase e
  follows (Turns.turn {s} {c = c} e d r g w) = turn_follows s.phase c e r g (follows w)

  comes : {s : State} {b l o i t : List ℕ} → After s b l o i t Reading → Comes s l o i t
  comes (After.reading c) = c

  closed : {s : State} {b l o i t : List ℕ} → After s b l o i t Closing → (i ≡ []) × (t ≡ take s.used o)
  closed (After.closing e f) = (e, f)

-- ---- the theorems

-- where the catalogue is refused, nothing is read, and what is written is the listing, whatever the input is
pub run_refused : {house : List ℕ} {f : Refusal} {m : Names} {o o' : List ℕ} {s : State} {b l i t : List ℕ} → Means house (refused_by f) → Refuses f o o' s → Turns m s b l o' i t → (i ≡ []) × ((input : List ℕ) → Listing house input t)
run_refused {house} {m = m} {o} p (Refuses.refuses {t = u} x) w =
    let (e, f) = closed m (follows m w) in
    (e, λ input. subst (Listing house input) (sym (f ∙ put_front m o (header ++ u))) (refused_lists p x))

-- what is written is the listing of the catalogue and the input
pub run_lists : {house : List ℕ} {run : CatalogueRun} {m : Names} {o o' : List ℕ} {s : State} {b l i t : List ℕ} → length l ≡ longest_entry → ComesTo house run m → Starts run o o' s → Turns m s b l o' i t → Listing house i t
run_lists {house} {m = m} {o} {i = i} {t = t} k (ready p g) (Starts.with_catalogue Begins.begins) w =
    let c = comes m (follows m w) in
    let e : t ≡ header ++ c.lines = c.text ∙ ap (λ (x : List ℕ). x ++ c.lines) (put_front m o header) in
    subst (Listing house i) (sym e) (subst (λ (x : List ℕ). Listing house x (header ++ c.lines)) c.all (calls_list p g k c.calls))
run_lists {i = i} k (refused p) (Starts.with_refused x) w = (run_refused p x w).1 i

-- so two runs on one catalogue and one input write the same
pub any_run : {house : List ℕ} {run fun : CatalogueRun} {m n : Names} {o o' p p' : List ℕ} {s r : State} {a b l k i t u : List ℕ} → length l ≡ longest_entry → length k ≡ longest_entry
    → ComesTo house run m → ComesTo house fun n → Starts run o o' s → Starts fun p p' r → Turns m s a l o' i t → Turns n r b k p' i u → t ≡ u
any_run j h c d x y v w = listing_one (run_lists j c x v) (run_lists h d y w)

pub goes_further : {m : Names} {b l o l' o' : List ℕ} {from n h : ℕ} {s : State} → longest_line ≤ length o → from < length (take n b) → Advances m b l o from n h l' o' s → from < s.at
goes_further h i (Advances.used_up w k) = lists_grow w i (omega arith)
goes_further h i (Advances.within w k) = lists_grow w i (omega arith)
