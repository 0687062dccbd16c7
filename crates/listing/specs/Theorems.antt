-- THE THEOREMS ON THE LISTING.
-- What `list_block` writes for the bytes that it takes is what the definition says of the lines that end there, and what is held after it is the
-- unfinished line (`block_means`). However an input is cut into reads, and wherever the output runs out of room, what is written from the header to the
-- last line is the listing of the catalogue that the memory holds and of the input (`calls_list`); so two ways of cutting it write the same
-- (`any_reads`). Where the catalogue is refused, the header and its line are the listing (`refused_lists`).
-- That a catalogue and an input have one listing, and that each promise allows one result, is in `One`.
-- Assumes nothing.
use Rattle.std.specs.Prelude.{ℕ, ◌+◌, ◌≤◌, ◌≡◌, refl, List, [], ◌∷◌, ◌++◌, length, take, drop, Err}
use Rattle.std.proofs.Common.{sym, ◌∙◌, ap, ap₂, subst, append_assoc, append-nil, arith, length-append, take_at}
use Rattle.calendar.specs.Rows.{refuses}
use Rattle.refusals.specs.declared.Refusal.{Refusal}
use Rattle.nametable.specs.declared.Names.{Names}
use Rattle.nametable.specs.Houses.{House}
use Rattle.nametable.specs.Holds.{Holds}
use Rattle.catalogue.specs.Catalogue.{catalogue, refused_by, Means}
use Rattle.catalogue.specs.Promise.{NamesIn}
use Rattle.catalogue.proofs.Theorems.{named_with}
use Rattle.writer.specs.Promise.{put}
use Rattle.writer.proofs.PutLaws.{put_none, put_then, length_put}
use Rattle.bytesearch.specs.Promise.{Without}
use Rattle.whole.specs.Text.{newline}
use Rattle.textlines.specs.Lines.{joined}
use Rattle.textlines.specs.Laws.{after_rest, after_line}
use Rattle.textlines.specs.Promise as L
use Rattle.textlines.specs.Promise.{TakesRest, TakesLine}
use Rattle.textlines.specs.Theorems.{Cuts, Last, cuts_join, cuts_lines, holds_none, holds_more, holds_some}
use Rattle.entry.specs.Entry.{longest_entry}
use Rattle.entry.specs.Promise.{Naming, LineAnswer}
use Rattle.linetext.specs.Line.{longest_line}
use Rattle.linetext.specs.Promise.{LineOut}
use Rattle.columns.specs.Columns.{header}
use Rattle.listing.specs.One.{listing_one}
use Rattle.listing.specs.Promise.{HeldAnswer, HeldLine, LastLine, BlockState, block_state, NextLine, Lists}
use Rattle.listing.specs.Laws.{all_also}
use Rattle.listing.specs.Lines.{Listed, listed, AllListed, Listing, listing, refused}

-- ---- what a call of `list_block` comes to: `taken` are the bytes that it took

pub record BlockMeans (N : Naming) (b : List ℕ) (s e : BlockState) (p : List ℕ) : Type 0 where
  pub taken : List ℕ
  pub lines : List (List ℕ)
  pub unfinished : List ℕ
  pub text : List ℕ
  pub bytes_are : drop s.at b ≡ taken ++ drop e.at b
  pub cuts : Cuts p taken lines unfinished
  pub listed : AllListed N lines text
  pub out_is : e.out ≡ put s.out s.used text
  pub used_is : e.used ≡ s.used + length text
  pub room : s.used + length text ≤ length s.out
  pub buffer : length e.line ≡ longest_entry
  pub holds : L.Holds e.line e.held unfinished

-- ---- calls of `list_block` on whatever parts the input is read in, each writing from the front of its output, and then the last line

pub data Calls (N : Naming) : List ℕ → ℕ → List (List ℕ) → List ℕ → Type 0 where
  ends : {l : List ℕ} {n : ℕ} {t : List ℕ} → LastLine N l n t → Calls N l n [] t
  reads : {b c : List ℕ} {at : ℕ} {l o : List ℕ} {n : ℕ} {e : BlockState} {cs : List (List ℕ)} {t : List ℕ}
      → Lists N b (block_state at l n o 0) e → drop at b ≡ c ++ drop e.at b → Calls N e.line e.held cs t → Calls N l n (c ∷ cs) (take e.used e.out ++ t)

-- what comes before the same end is the same
same_front : (p q s : List ℕ) → p ++ s ≡ q ++ s → p ≡ q
same_front p q s e =
    let n : length p ≡ length q = omega (arith, ap length e, length-append p s, length-append q s) in
    sym (take_at p s (length p) refl) ∙ ap₂ (λ (i : ℕ) (x : List ℕ). take i x) n e ∙ take_at q s (length q) refl

module _ {N : Naming} where
  -- ---- what is written for the line that is held

  held_listed : {l : List ℕ} {n : ℕ} {p t : List ℕ} → L.Holds l n p → HeldLine N l n t → Listed N p t
  held_listed {l} {n} (L.Holds.fits h e k) (HeldLine.held_line (HeldAnswer.short {a} i q) x) = listed (subst (λ (s : List ℕ). LineAnswer N s a) k q) x.is
  held_listed (L.Holds.fits h e k) (HeldLine.held_line (HeldAnswer.long i) x) = absurd (omega arith)
  held_listed (L.Holds.over h k) (HeldLine.held_line (HeldAnswer.short i q) x) = absurd (omega arith)
  held_listed (L.Holds.over h k) (HeldLine.held_line (HeldAnswer.long i) x) = listed (refuses h) x.is

  means_none : {b p : List ℕ} {s : BlockState} → length s.line ≡ longest_entry → s.used ≤ length s.out → L.Holds s.line s.held p → BlockMeans N b s s p
  means_none {b} {p} {s} k i h =
      record {
        taken = [];
        lines = [];
        unfinished = p;
        text = [];
        bytes_are = refl;
        cuts = subst (Cuts p [] []) (append-nil p) (Cuts.rest Without.none);
        listed = AllListed.none;
        out_is = sym (put_none s.out s.used);
        used_is = omega arith;
        room = omega arith;
        buffer = k;
        holds = h;
      }

  means_next : {b p : List ℕ} {s t : BlockState} → s.used + longest_line ≤ length s.out → length s.line ≡ longest_entry → L.Holds s.line s.held p → NextLine N b s t → BlockMeans N b s t p
  means_next {b} {p} {s} i k h (NextLine.rest (TakesRest.rest {q} e w f)) =
      let g = holds_more k h f in
      record {
        taken = q;
        lines = [];
        unfinished = p ++ q;
        text = [];
        bytes_are = e ∙ sym (append-nil q) ∙ ap (λ (x : List ℕ). q ++ x) (sym (after_rest b s.at e));
        cuts = Cuts.rest w;
        listed = AllListed.none;
        out_is = sym (put_none s.out s.used);
        used_is = omega arith;
        room = omega arith;
        buffer = g.0;
        holds = g.1;
      }
  means_next {b} {p} {s} i k h (NextLine.line {t = t} (TakesLine.line {q} u e w f) g m) =
      let held = holds_more k h f in
      record {
        taken = q ++ (newline ∷ []);
        lines = (p ++ q) ∷ [];
        unfinished = [];
        text = t;
        bytes_are = e ∙ sym (append_assoc q (newline ∷ []) u) ∙ ap (λ (x : List ℕ). (q ++ (newline ∷ [])) ++ x) (sym (after_line b s.at q u e));
        cuts = Cuts.line w (Cuts.rest Without.none);
        listed = subst (AllListed N ((p ++ q) ∷ [])) (append-nil t) (AllListed.next (held_listed held.1 g) AllListed.none);
        out_is = refl;
        used_is = refl;
        room = omega arith;
        buffer = held.0;
        holds = holds_none _;
      }

  all_join : {ls ms : List (List ℕ)} {t u : List ℕ} → AllListed N ls t → AllListed N ms u → AllListed N (ls ++ ms) (t ++ u)
  all_join AllListed.none q = q
  all_join {ms = ms} {u = u} (AllListed.next {l} {ls} {t} {u = v} p r) q = subst (AllListed N ((l ∷ ls) ++ ms)) (sym (append_assoc t v u)) (AllListed.next p (all_join r q))

  means_then : {b p : List ℕ} {s t e : BlockState} (m : BlockMeans N b s t p) → BlockMeans N b t e m.unfinished → BlockMeans N b s e p
  means_then {s = s} {t} m n =
      record {
        taken = m.taken ++ n.taken;
        lines = m.lines ++ n.lines;
        unfinished = n.unfinished;
        text = m.text ++ n.text;
        bytes_are = m.bytes_are ∙ ap (λ (x : List ℕ). m.taken ++ x) n.bytes_are ∙ sym (append_assoc m.taken n.taken _);
        cuts = cuts_join m.cuts n.cuts;
        listed = all_join m.listed n.listed;
        out_is = n.out_is ∙ ap₂ (λ (x : List ℕ) (i : ℕ). put x i n.text) m.out_is m.used_is ∙ put_then s.out s.used m.text n.text m.room;
        used_is = omega (arith, n.used_is, m.used_is, length-append m.text n.text);
        room = omega (arith, n.room, m.used_is, long, length-append m.text n.text);
        buffer = n.buffer;
        holds = n.holds;
      }
    where
      long : length t.out ≡ length s.out
      long = ap length m.out_is ∙ length_put s.out s.used m.text m.room

  pub block_means : {b p : List ℕ} {s e : BlockState} → length s.line ≡ longest_entry → s.used ≤ length s.out → L.Holds s.line s.held p → Lists N b s e → BlockMeans N b s e p
  block_means k i h (Lists.block_ends x) = means_none k i h
  block_means k i h (Lists.out_of_room x) = means_none k i h
  block_means {p = p} {s = s} k i h (Lists.goes_on {t = t} x y w l) =
      let m = means_next y k h w in
      means_then m (block_means {p = m.unfinished} m.buffer (omega (arith, m.used_is, m.room, ap length m.out_is, length_put s.out s.used m.text m.room)) m.holds l)

  last_means : {l : List ℕ} {n : ℕ} {r t : List ℕ} → L.Holds l n r → LastLine N l n t → (ms : List (List ℕ)) × Last r ms × AllListed N ms t
  last_means {r = []} h LastLine.no_more = ([], Last.none, AllListed.none)
  last_means {r = x ∷ r} (L.Holds.fits i e k) LastLine.no_more = absurd (omega arith)
  last_means {r = x ∷ r} (L.Holds.over i k) LastLine.no_more = absurd (omega arith)
  last_means {r = r} {t} h (LastLine.one_more i g) = (r ∷ [], Last.some (holds_some h i), subst (AllListed N (r ∷ [])) (append-nil t) (AllListed.next (held_listed h g) AllListed.none))

  calls_mean : {l : List ℕ} {n : ℕ} {cs : List (List ℕ)} {p t : List ℕ} → length l ≡ longest_entry → L.Holds l n p → Calls N l n cs t
      → (ls : List (List ℕ)) × (r : List ℕ) × (ms : List (List ℕ)) × Cuts p (joined cs) ls r × Last r ms × AllListed N (ls ++ ms) t
  calls_mean {p = p} k h (Calls.ends w) =
      let (ms, x, y) = last_means h w in ([], p, ms, subst (Cuts p [] []) (append-nil p) (Cuts.rest Without.none), x, y)
  calls_mean {p = p} k h (Calls.reads {b} {c} {o = o} {e} {cs} {t} w d v) =
      let m = block_means k (omega arith) h w in
      let (ls, r, ms, x, y, z) = calls_mean m.buffer m.holds v in
      let f : m.taken ≡ c = same_front m.taken c (drop e.at b) (sym m.bytes_are ∙ d) in
      (m.lines ++ ls, r, ms, subst (λ (i : List ℕ). Cuts p (i ++ joined cs) (m.lines ++ ls) r) f (cuts_join m.cuts x), y, subst (λ (i : List (List ℕ)). AllListed N i (take e.used e.out ++ t)) (sym (append_assoc m.lines ls ms)) (subst (λ (i : List ℕ). AllListed N (m.lines ++ (ls ++ ms)) (i ++ t)) (sym (front m)) (all_join m.listed z)))
    where
      front : {at : ℕ} {l : List ℕ} {n : ℕ} {p : List ℕ} (m : BlockMeans N b (block_state at l n o 0) e p) → take e.used e.out ≡ m.text
      front m = ap (take e.used) m.out_is ∙ take_at m.text (drop (0 + length m.text) o) e.used (omega (arith, m.used_is))

-- ---- the listing, from memory that holds the catalogue

module _ {house : List ℕ} {hs : List House} (p : Means house (catalogue hs)) {m : Names} (g : Holds m hs) where
  -- the header and what the calls write are the listing of the catalogue and of what they read
  pub calls_list : {l : List ℕ} {cs : List (List ℕ)} {t : List ℕ} → length l ≡ longest_entry → Calls (NamesIn m) l 0 cs t → Listing house (joined cs) (header ++ t)
  calls_list {l} k s =
      let (ls, r, ms, x, y, z) = calls_mean k (holds_none l) s in
      listing p (cuts_lines Without.none x y) (all_also (λ s a n. named_with p g n) z)

-- what is written for a catalogue that is refused is the listing, whatever the input is
pub refused_lists : {house input : List ℕ} {f : Refusal} {t : List ℕ} → Means house (refused_by f) → LineOut (Err f) t → Listing house input (header ++ t)
refused_lists p x = refused p x.is

-- so it does not matter in what parts the input comes, nor what else the memory has
pub any_reads : {house : List ℕ} {hs ks : List House} {m₁ m₂ : Names} {l₁ l₂ : List ℕ} {cs ds : List (List ℕ)} {t u : List ℕ} → Means house (catalogue hs) → Means house (catalogue ks) → Holds m₁ hs → Holds m₂ ks
    → length l₁ ≡ longest_entry → length l₂ ≡ longest_entry → Calls (NamesIn m₁) l₁ 0 cs t → Calls (NamesIn m₂) l₂ 0 ds u → joined cs ≡ joined ds → header ++ t ≡ header ++ u
any_reads {house} {u = u} p q g h i j s v e = listing_one (calls_list p g i s) (subst (λ (x : List ℕ). Listing house x (header ++ u)) (sym e) (calls_list q h j v))
