-- THE THEOREMS ON A RUN OF THE IMPORT. A program that has read its catalogue, does what the turns say, and whose reads and writes do not fail, writes
-- the import of its catalogue and its input, whatever parts these come in (`run_imports`). Where a refusal ends the import, the rest of the input is not
-- read, and what is written is the import of the input whatever that rest is. So two runs on one input write the same (`any_run`). A file has fewer than
-- 2^64 bytes here.
-- Assumes nothing.
use Rattle.std.specs.Prelude.{ℕ, ◌+◌, ◌-◌, ◌≤◌, ◌<◌, min, ◌≡◌, Bool, true, false, Some}
use Rattle.std.proofs.Math.Path.{refl, sym, ap, ap₂, subst}
use Rattle.std.proofs.Common.{◌∙◌, true≢false, zero-add, add-zero, arith, take-append-drop, drop_of_length-le}
use mathlib.Core.List.{List, [], ◌∷◌, ◌++◌, append_assoc, append-nil}
use Rattle.std.proofs.Math.Nat.{min-eq_left}
use Rattle.std.proofs.Math.ListN.{length, take, drop, length-append, length-take, length-drop}
use Rattle.std.proofs.Math.Seq.{take_at}
use Rattle.writer.specs.Promise.{put}
use Rattle.writer.proofs.PutLaws.{length_put}
use Rattle.columns.specs.Columns.{header}
use Rattle.nametable.specs.declared.Names.{Names}
use Rattle.catalogue.specs.Promise.{NamesIn}
use Rattle.catalogue.proofs.Theorems.{named_with}
use Rattle.cataloguerun.specs.declared.CatalogueRun.{CatalogueRun}
use Rattle.cataloguerun.specs.Theorems.{ComesTo, ready, refused}
use Rattle.filter.specs.declared.Phase.{Phase}
use Rattle.filter.specs.declared.Phase.TheVariants.{Reading, Midway, Closing, Failing, Ended}
use Rattle.filter.specs.declared.Stream.TheVariants.{Output}
use Rattle.filter.specs.Promise.{goes_on_value, output_of, room_of, event_of, event_in, block_size}
use Rattle.listrun.specs.Promise as List'
use Rattle.importing.specs.declared.Stopped.{Stopped}
use Rattle.importing.specs.Promise.{most_place, place_of, import_state}
use Rattle.importing.specs.Import.{Import, imported}
use Rattle.importing.specs.Import as Import'
use Rattle.importing.specs.Laws.{all_also}
use Rattle.importing.specs.One.{import_one}
use Rattle.importing.specs.Theorems.{Gives, gives_none, Rest, CallGives, call_gives, all_read}
use Rattle.importrun.specs.declared.ImportRun.{ImportRun}
use Rattle.importrun.specs.Promise.{kept_of, room_left, Starts, Keeps, Advances, GoesOn}

-- ---- what a program does

-- A read of at most m bytes after the first k of the block b: c came, and stands there. The first k bytes, and what lies past the m, are as they were.
pub record Reads (k m : ℕ) (b c b' : List ℕ) : Type 0 where
  pub short : length c ≤ m
  pub front : take (k + length c) b' ≡ take k b ++ c
  pub rest : drop (k + m) b' ≡ drop (k + m) b
  pub long : length b' ≡ length b

module _ (m : Names) where
  -- Turn after turn: the front of the output x is written, a read is made, and the next turn is asked for. The input is all that was read, and the text
  -- all that was written to standard output. A read of no bytes tells that the input has ended, and none comes after it; the flag tells whether there
  -- was such a read.
  pub data Turns : Bool → ImportRun → List ℕ → List ℕ → List ℕ → List ℕ → List ℕ → Type 0 where
    over : {r : ImportRun} {b l x : List ℕ} → goes_on_value r.state.phase ≡ false → Turns false r b l x [] []
    turn : {f : Bool} {r r' : ImportRun} {b b' b'' l l' x x' c i t : List ℕ} → goes_on_value r.state.phase ≡ true → output_of r.state.phase ≡ Output → Reads (kept_of r.state) (room_left r.state true) b c b' → (r.state.phase ≡ Reading → 0 < length c)
        → GoesOn m b' l x r (event_of r.state true (Some (length c))) b'' l' x' r' → Turns f r' b'' l' x' i t → Turns f r b l x (c ++ i) (take r.state.used x ++ t)
    ends : {f : Bool} {r r' : ImportRun} {b b' b'' l l' x x' t : List ℕ} → r.state.phase ≡ Reading → Reads (kept_of r.state) (room_left r.state true) b [] b'
        → GoesOn m b' l x r (event_in Reading r.state.at r.state.count true (Some 0)) b'' l' x' r' → Turns f r' b'' l' x' [] t → Turns true r b l x [] (take r.state.used x ++ t)

  -- ---- what is still to come, by the phase

  -- of the bytes p, which were read and stand at the offset o of the file, and of i, which is still to be read: v is written, whatever z comes after them
  Comes : Bool → ℕ → List ℕ → List ℕ → List ℕ → Type 0
  Comes f o p i v = o + length (p ++ i) ≤ most_place → (z : List ℕ) → (f ≡ true → z ≡ []) → Gives (NamesIn m) o (p ++ (i ++ z)) v

  data After (f : Bool) (r : ImportRun) (b x i t : List ℕ) : Phase → Type 0 where
    reading : (v : List ℕ) → t ≡ take r.state.used x ++ v → (length b ≡ block_size → r.state.held ≤ block_size → Comes f r.offset (take r.state.held b) i v) → After f r b x i t Reading
    midway : (v : List ℕ) → t ≡ take r.state.used x ++ v → (length b ≡ block_size → r.state.held ≡ 0 → r.state.count ≤ block_size → r.state.at ≤ length (take r.state.count b) → Comes f (r.offset + r.state.at) (drop r.state.at (take r.state.count b)) i v) → After f r b x i t Midway
    closing : i ≡ [] → t ≡ take r.state.used x → After f r b x i t Closing
    failing : After f r b x i t Failing
    ended : i ≡ [] → t ≡ [] → After f r b x i t Ended

  -- ---- a turn

  -- the bytes of s from an offset on, with those to come, lie below the greatest offset
  below : (s i : List ℕ) (o from : ℕ) → from ≤ length s → o + from + length (drop from s ++ i) ≤ most_place → o + length s + length i ≤ most_place
  below s i o from k h = omega (arith, h, length-append (drop from s) i, length-drop from s)

  further : (s i : List ℕ) (o at : ℕ) → at ≤ length s → o + length s + length i ≤ most_place → o + at + length (drop at s ++ i) ≤ most_place
  further s i o at k h = omega (arith, h, length-append (drop at s) i, length-drop at s)

  -- what a call has written stands at the front of the output
  front_text : {ends : Bool} {o : ℕ} {b : List ℕ} {at from u : ℕ} {l x l' x' : List ℕ} {w : Stopped} (g : CallGives (NamesIn m) ends o b (import_state from l x 0) (import_state at l' x' u) w) → take u x' ≡ g.text
  front_text {x = x} {x' = x'} g = ap₂ take (g.used_is ∙ zero-add (length g.text)) g.out_is ∙ take_at g.text (drop (0 + length g.text) x) (length g.text) refl

  module _ {b l x : List ℕ} {from n : ℕ} {ends : Bool} {o : ℕ} (long : length b ≡ block_size) (small : n ≤ block_size) (inside : from ≤ length (take n b)) {f g : Bool} (also : f ≡ true → g ≡ true) (last : ends ≡ true → g ≡ true) where
    advance_comes : {b'' l' x' i t : List ℕ} {r' : ImportRun} → (ends ≡ true → i ≡ []) → Advances m b l x from n ends o b'' l' x' r' → After f r' b'' x' i t r'.state.phase → Comes g (o + from) (drop from (take n b)) i t
    unfolding Comes
    advance_comes {i = i} {t} e (Advances.ended w) (After.closing d q) h z k =
        let c = call_gives (omega (arith, below (take n b) i o from inside h)) inside (omega arith) w in
        let v = c.gives z [] (λ y. k (last y)) Rest.over in
        subst (λ (y : List ℕ). Gives (NamesIn m) (o + from) (drop from (take n b) ++ (y ++ z)) t) (sym d) (subst (Gives (NamesIn m) (o + from) (drop from (take n b) ++ z)) (append-nil c.text ∙ sym (front_text c) ∙ sym q) v)
    advance_comes {i = i} {t} e (Advances.full {at = at} w) (After.midway v q y) h z k =
        let c = call_gives (omega (arith, below (take n b) i o from inside h)) inside (omega arith) w in
        let rest = y long refl small c.within (further (take n b) i o at c.within (below (take n b) i o from inside h)) z (λ a. k (also a)) in
        subst (Gives (NamesIn m) (o + from) (drop from (take n b) ++ (i ++ z))) (ap (λ (a : List ℕ). a ++ v) (sym (front_text c)) ∙ sym q) (c.gives (i ++ z) v (λ a. ap₂ (λ (p s : List ℕ). p ++ s) (e a) (k (last a))) (Rest.full rest))
    advance_comes {i = i} {t} e (Advances.spent {at = at} a w Keeps.keeps) (After.reading v q y) h z k =
        let c = call_gives (omega (arith, below (take n b) i o from inside h)) inside (omega arith) w in
        let s : take (min n block_size) b ≡ take n b = ap (λ (j : ℕ). take j b) (min-eq_left small) in
        let p : length (drop at (take (min n block_size) b)) ≤ length b = omega (arith, length-drop at (take (min n block_size) b), length-take (min n block_size) b) in
        let u : take (length (drop at (take (min n block_size) b))) (put b 0 (drop at (take (min n block_size) b))) ≡ drop at (take n b) = take_at (drop at (take (min n block_size) b)) (drop (0 + length (drop at (take (min n block_size) b))) b) (length (drop at (take (min n block_size) b))) refl ∙ ap (drop at) s in
        let j : place_of o at ≡ o + at = min-eq_left (omega (arith, below (take n b) i o from inside h, c.within)) in
        let d : o + at + length (drop at (take n b) ++ i) ≤ most_place = further (take n b) i o at c.within (below (take n b) i o from inside h) in
        let rest = y (length_put b 0 (drop at (take (min n block_size) b)) (omega arith) ∙ long) (omega (arith, long)) (subst (λ (r : ℕ). r ≤ most_place) (ap₂ (λ (r : ℕ) (s : List ℕ). r + length (s ++ i)) (sym j) (sym u)) d) z (λ a. k (also a)) in
        subst (Gives (NamesIn m) (o + from) (drop from (take n b) ++ (i ++ z))) (ap (λ (a : List ℕ). a ++ v) (sym (front_text c)) ∙ sym q)
        (c.gives (i ++ z) v (λ t. absurd (true≢false (sym t ∙ a))) (Rest.spent (subst (λ (r : ℕ). Gives (NamesIn m) r (drop at (take n b) ++ (i ++ z)) v) j (subst (λ (s : List ℕ). Gives (NamesIn m) (place_of o at) (s ++ (i ++ z)) v) u rest))))
    advance_comes {i = i} {t} e (Advances.all_read {at = at} a w) (After.closing d q) h z k =
        let c = call_gives (omega (arith, below (take n b) i o from inside h)) inside (omega arith) w in
        let none : drop at (take n b) ++ z ≡ [] = ap₂ (λ (p s : List ℕ). p ++ s) (drop_of_length-le (take n b) {i = at} (all_read (omega (arith, below (take n b) i o from inside h)) a refl w)) (k (last a)) in
        let v = c.gives z [] (λ y. k (last y)) (Rest.spent (subst (λ (s : List ℕ). Gives (NamesIn m) (o + at) s []) (sym none) gives_none)) in
        subst (λ (y : List ℕ). Gives (NamesIn m) (o + from) (drop from (take n b) ++ (y ++ z)) t) (sym d) (subst (Gives (NamesIn m) (o + from) (drop from (take n b) ++ z)) (append-nil c.text ∙ sym (front_text c) ∙ sym q) v)

  -- ---- turn after turn

  finished : {f : Bool} {r r' : ImportRun} {b b'' l l' x x' i t : List ℕ} → GoesOn m b l x r (event_in Closing r.state.at r.state.count true (Some 0)) b'' l' x' r' → After f r' b'' x' i t r'.state.phase → (i ≡ []) × (take r.state.used x ++ t ≡ take r.state.used x)
  finished {r = r} {x = x} GoesOn.ends (After.ended e d) = (e, ap (λ (y : List ℕ). take r.state.used x ++ y) d ∙ append-nil (take r.state.used x))

  -- a read of no bytes leaves the block as it was
  same_block : (k : ℕ) (b b' : List ℕ) → Reads k (0 - k) b [] b' → b' ≡ b
  same_block k b b' g =
      let e : take k b' ≡ take k b = ap (λ (n : ℕ). take n b') (sym (add-zero k)) ∙ g.front ∙ append-nil (take k b) in
      let n : k + (0 - k) ≡ k = omega arith in
      sym (take-append-drop k b') ∙ ap₂ (λ (y z : List ℕ). y ++ z) e (ap (λ (j : ℕ). drop j b') (sym n) ∙ g.rest ∙ ap (λ (j : ℕ). drop j b) n) ∙ take-append-drop k b

  -- nothing is kept before a block that goes on
  kept_none : {h n : ℕ} → h ≡ 0 → n ≤ block_size → place_of (min h block_size) n ≡ n
  kept_none {h} {n} e k = ap (λ (j : ℕ). place_of (min j block_size) n) e ∙ ap (λ (j : ℕ). min j most_place) (zero-add n) ∙ min-eq_left (omega arith)

  midway_turn : {f : Bool} {r r' : ImportRun} {b b'' l l' x x' i t : List ℕ} → GoesOn m b l x r (event_in Midway r.state.at r.state.count true (Some 0)) b'' l' x' r' → After f r' b'' x' i t r'.state.phase → After f r b x i (take r.state.used x ++ t) Midway
  midway_turn {r = r} {r'} {b} {b''} {l} {l'} {x} {x'} {t = t} (GoesOn.works_on a) q =
      After.midway t refl (λ long e k h. advance_comes {x = x} long k h (λ y. y) (λ y. absurd (true≢false (sym y))) (λ y. absurd (true≢false (sym y))) (subst (λ (n : ℕ). Advances m b l x r.state.at n false r.offset b'' l' x' r') (kept_none e k) a) q)

  -- bytes that came after those that were kept
  moved : (f : Bool) (o : ℕ) (s i t p c : List ℕ) → s ≡ p ++ c → Comes f (o + 0) s i t → Comes f o p (c ++ i) t
  unfolding Comes
  moved f o s i t p c e g h z k =
      subst (λ (y : List ℕ). Gives (NamesIn m) o y t) (ap (λ (y : List ℕ). y ++ (i ++ z)) e ∙ append_assoc p c (i ++ z) ∙ ap (λ (y : List ℕ). p ++ y) (sym (append_assoc c i z)))
      (subst (λ (j : ℕ). Gives (NamesIn m) j (s ++ (i ++ z)) t) (add-zero o) (g (omega (arith, h, ap length e, length-append s i, length-append p c, length-append p (c ++ i), length-append c i)) z k))

  -- the first h bytes are kept, and c came after them
  module _ {h : ℕ} (k : h ≤ block_size) {b b' c : List ℕ} (g : Reads (min h block_size) (block_size - min h block_size) b c b') where
    kept_is : min h block_size ≡ h
    kept_is = min-eq_left k

    all_fit : h + length c ≤ block_size
    all_fit = fit h (length c) (min h block_size) k kept_is g.short
      where
        fit : (h n j : ℕ) → h ≤ block_size → j ≡ h → n ≤ block_size - j → h + n ≤ block_size
        fit h n j k e l = omega arith

    all_came : place_of (min h block_size) (min (length c) block_size) ≡ h + length c
    all_came = ap₂ place_of kept_is (min-eq_left (omega (arith, all_fit))) ∙ min-eq_left (omega (arith, all_fit))

    came_is : take (h + length c) b' ≡ take h b ++ c
    came_is = ap (λ (j : ℕ). take (j + length c) b') (sym kept_is) ∙ g.front ∙ ap (λ (j : ℕ). take j b ++ c) kept_is

  reading_turn : {f : Bool} {r r' : ImportRun} {b b' b'' l l' x x' i t : List ℕ} (y : ℕ) (c : List ℕ) → Reads (kept_of r.state) (block_size - kept_of r.state) b (y ∷ c) b'
      → GoesOn m b' l x r (event_in Reading r.state.at r.state.count true (Some (length (y ∷ c)))) b'' l' x' r' → After f r' b'' x' i t r'.state.phase → After f r b x ((y ∷ c) ++ i) (take r.state.used x ++ t) Reading
  reading_turn {r = r} {r'} {b} {b'} {b''} {l} {l'} {x} {x'} {t = t} y c g (GoesOn.works_on a) q =
      After.reading t refl (λ long k. moved _ _ _ _ _ (take r.state.held b) (y ∷ c) (came_is k g) (advance_comes {x = x} (g.long ∙ long) (all_fit k g) (omega arith) (λ u. u) (λ u. absurd (true≢false (sym u))) (λ u. absurd (true≢false (sym u)))
      (subst (λ (n : ℕ). Advances m b' l x 0 n false r.offset b'' l' x' r') (all_came k g) a) q))

  last_turn : {f : Bool} {r r' : ImportRun} {b b' b'' l l' x x' t : List ℕ} → Reads (kept_of r.state) (block_size - kept_of r.state) b [] b'
      → GoesOn m b' l x r (event_in Reading r.state.at r.state.count true (Some 0)) b'' l' x' r' → After f r' b'' x' [] t r'.state.phase → After true r b x [] (take r.state.used x ++ t) Reading
  last_turn {r = r} {r'} {b} {b'} {b''} {l} {l'} {x} {x'} {t = t} g (GoesOn.last_record a) q =
      After.reading t refl (λ long k. moved _ _ _ _ _ (take r.state.held b) [] (ap (λ (n : ℕ). take n b') (sym (add-zero r.state.held)) ∙ came_is k g) (advance_comes {x = x} (g.long ∙ long) k (omega arith) (λ u. refl) (λ u. refl) (λ u. refl)
      (subst (λ (n : ℕ). Advances m b' l x 0 n true r.offset b'' l' x' r') (kept_is k g) a) q))

  turn_follows : (p : Phase) {f : Bool} {r r' : ImportRun} {b b' b'' l l' x x' i t : List ℕ} (c : List ℕ) → goes_on_value p ≡ true → (p ≡ Reading → 0 < length c) → Reads (kept_of r.state) (room_of p true - kept_of r.state) b c b'
      → GoesOn m b' l x r (event_in p r.state.at r.state.count true (Some (length c))) b'' l' x' r' → After f r' b'' x' i t r'.state.phase → After f r b x (c ++ i) (take r.state.used x ++ t) p
  turn_follows Reading [] e n g a q = absurd (omega (arith, n refl))
  turn_follows Reading (y ∷ c) e n g a q = reading_turn y c g a q
  turn_follows Midway {f} {r} {r'} {b} {b'} {b''} {l} {l'} {x} {x'} {i} {t} [] e n g a q = subst (λ (y : List ℕ). After f r y x i (take r.state.used x ++ t) Midway) (same_block (kept_of r.state) b b' g) (midway_turn a q)
  turn_follows Midway (y ∷ c) e n g a q = absurd (omega (arith, g.short))
  turn_follows Closing [] e n g a q = let (d, k) = finished a q in After.closing d k
  turn_follows Closing (y ∷ c) e n g a q = absurd (omega (arith, g.short))
  turn_follows Failing c e n g a q = After.failing
  turn_follows Ended c e n g a q = absurd (true≢false (sym e))

  none_follow : (p : Phase) {r : ImportRun} {b x : List ℕ} → goes_on_value p ≡ false → After false r b x [] [] p
  none_follow Reading e = absurd (true≢false e)
  none_follow Midway e = absurd (true≢false e)
  none_follow Closing e = absurd (true≢false e)
  none_follow Failing e = absurd (true≢false e)
  none_follow Ended e = After.ended refl refl

  last_follows : (p : Phase) {f : Bool} {r r' : ImportRun} {b b' b'' l l' x x' t : List ℕ} → p ≡ Reading → Reads (kept_of r.state) (room_of p true - kept_of r.state) b [] b'
      → GoesOn m b' l x r (event_in Reading r.state.at r.state.count true (Some 0)) b'' l' x' r' → After f r' b'' x' [] t r'.state.phase → After true r b x [] (take r.state.used x ++ t) p
  last_follows Reading e g a q = last_turn g a q
  last_follows Midway e g a q = let z : ◌≡◌ {A = ℕ} 0 1 = cc in absurd (omega arith)
  last_follows Closing e g a q = let z : ◌≡◌ {A = ℕ} 0 1 = cc in absurd (omega arith)
  last_follows Failing e g a q = let z : ◌≡◌ {A = ℕ} 0 1 = cc in absurd (omega arith)
  last_follows Ended e g a q = let z : ◌≡◌ {A = ℕ} 0 1 = cc in absurd (omega arith)

  follows : {f : Bool} {r : ImportRun} {b l x i t : List ℕ} → Turns f r b l x i t → After f r b x i t r.state.phase
  follows (Turns.over {r} e) = none_follow r.state.phase e
  follows (Turns.turn {r = r} {c = c} e d g n a w) = turn_follows r.state.phase c e n g a (follows w)
  follows (Turns.ends {r = r} e g a w) = last_follows r.state.phase e g a (follows w)

  comes : {f : Bool} {r : ImportRun} {b x i t : List ℕ} → After f r b x i t Reading → (v : List ℕ) × (t ≡ take r.state.used x ++ v) × (length b ≡ block_size → r.state.held ≤ block_size → Comes f r.offset (take r.state.held b) i v)
  comes (After.reading v e g) = (v, e, g)

  closed : {f : Bool} {r : ImportRun} {b x i t : List ℕ} → After f r b x i t Closing → (i ≡ []) × (t ≡ take r.state.used x)
  closed (After.closing e d) = (e, d)

-- ---- the theorems

put_front : (x t : List ℕ) → take (length t) (put x 0 t) ≡ t
put_front x t = take_at t (drop (0 + length t) x) (length t) refl

-- what is written is the import of the catalogue and the input; where no read told the end of the input, whatever the rest of it is
pub run_imports : {house : List ℕ} {run : CatalogueRun} {m : Names} {f : Bool} {x x' : List ℕ} {r : ImportRun} {b l i t : List ℕ} → length b ≡ block_size → length i ≤ most_place → ComesTo house run m → Starts run x x' r → Turns m f r b l x' i t
    → (z : List ℕ) → (f ≡ true → z ≡ []) → Import house (i ++ z) t
unfolding Comes
run_imports {house} {m = m} {x = x} {b = b} {i = i} {t} h k (ready p g) (Starts.starts (List'.Starts.with_catalogue List'.Begins.begins)) w z c =
    let (v, e, q) = comes m (follows m w) in
    let j = q h (omega arith) (omega (arith, zero-add (length i))) z c in
    subst (Import house (i ++ z)) (sym (e ∙ ap (λ (y : List ℕ). y ++ v) (put_front x header))) (imported p j.reads (all_also (λ s a n. named_with p g n) j.written))
run_imports {house} {x = x} {i = i} {t} h k (refused p) (Starts.starts (List'.Starts.with_refused (List'.Refuses.refuses {t = u} y))) w z c =
    let (e, d) = closed _ (follows _ w) in
    subst (Import house (i ++ z)) (sym (d ∙ put_front x (header ++ u))) (Import'.refused p y.is)

-- so two runs on one catalogue and one input write the same
pub any_run : {house : List ℕ} {run fun : CatalogueRun} {m n : Names} {f g : Bool} {x x' y y' : List ℕ} {r q : ImportRun} {a b l k i t u : List ℕ} → length a ≡ block_size → length b ≡ block_size → length i ≤ most_place
    → ComesTo house run m → ComesTo house fun n → Starts run x x' r → Starts fun y y' q → Turns m f r a l x' i t → Turns n g q b k y' i u → t ≡ u
any_run h j p c d v w e s = import_one (run_imports h p c v e [] (λ z. refl)) (run_imports j p d w s [] (λ z. refl))
