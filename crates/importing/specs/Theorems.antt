-- THE THEOREMS ON THE IMPORT.
-- What a call writes for the records that it takes is what the definition says of them, whatever comes after them: with what is written for the rest of
-- the file it is what is written for the whole (`call_gives`). Where a refusal ends the import, it is what is written, whatever the rest of the file is
-- (`ended-gives`). So it does not matter in what parts a file comes: `importrun` says it of a whole run. That a catalogue and an input have one import
-- is in `One`. Of a record whose fields hold f and g the listing looks up f and reads g (`line_parts`).
-- Assumes nothing.
use Rattle.std.specs.Prelude.{ℕ, ◌+◌, ◌-◌, ◌≤◌, ◌<◌, ◌≡◌, refl, Bool, true, List, [], ◌∷◌, ◌++◌, length, drop, pos, Err}
use Rattle.std.proofs.Common.{sym, ◌∙◌, ap, ap₂, subst, true≢false, append_assoc, append-nil, arith, length-append, length-drop, take_at, drop-drop, drop_at}
use Rattle.std.proofs.Math.Nat.{min-eq_left}
use Rattle.std.proofs.Math.Seq.{drop-length}
use Rattle.refusals.specs.Promise.{refusal}
use Rattle.writer.specs.Promise.{put}
use Rattle.writer.proofs.PutLaws.{put_none, put_then, length_put}
use Rattle.entry.specs.Entry.{Entry}
use Rattle.entry.specs.Promise.{Naming, LineAnswer}
use Rattle.linetext.specs.Line.{longest_line}
use Rattle.linetext.specs.Promise.{LineOut}
use Rattle.listing.specs.Lines.{Listed, listed}
use Rattle.listing.specs.Promise.{HeldAnswer, HeldLine}
use Rattle.listing.specs.Laws.{held_short}
use Rattle.commatext.specs.declared.Scan.TheVariants as Scan'
use Rattle.commatext.specs.Grammar.{Field, Record, longest_record}
use Rattle.commatext.specs.Contents.{Where, Begun, NoLineEnd, Faulty, Outcome, refused, outcome_of, Reads}
use Rattle.commatext.specs.Promise.{Closes, line_of, Scans}
use Rattle.commatext.specs.One.{reads_one}
use Rattle.commatext.specs.Theorems.{field_without_tab}
use Rattle.importing.specs.declared.Taken.{Taken}
use Rattle.importing.specs.declared.Stopped.{Stopped}
use Rattle.importing.specs.Import.{Imported, AllImported}
use Rattle.importing.specs.Promise.{most_place, place_of, ImportState, import_state, TakesRecord, Imports}
use Rattle.importing.specs.Laws.{entry_short, taken_on}

-- ---- the line of two fields

pub line_parts : {l f : List ℕ} (g : List ℕ) → Field l f → Entry (line_of f g) f g
line_parts g q = Entry.tabbed (field_without_tab q)

-- ---- what is written for the text s, which stands at the offset o of the file

pub record Gives (N : Naming) (o : ℕ) (s t : List ℕ) : Type 0 where
  pub outcomes : List Outcome
  pub reads : Reads o s outcomes
  pub written : AllImported N outcomes t

pub gives_none : {N : Naming} {o : ℕ} → Gives N o [] []
gives_none = record { outcomes = []; reads = Reads.none; written = AllImported.none }

-- ---- a fault stays one, whatever comes after the bytes that were read

faulty_stays : {ends : Bool} {w : Where} {k n p : ℕ} {s : List ℕ} (z : List ℕ) → (ends ≡ true → z ≡ []) → Faulty ends w k s n p → Faulty true w k (s ++ z) n p
faulty_stays {ends} z e f = go f
  where
    no_line_stays : {s : List ℕ} → NoLineEnd ends s → NoLineEnd true (s ++ z)
    no_line_stays (NoLineEnd.other f g) = NoLineEnd.other f g
    no_line_stays (NoLineEnd.bare_return f) = NoLineEnd.bare_return f
    no_line_stays (NoLineEnd.last_return t) = subst (λ (y : List ℕ). NoLineEnd true (13 ∷ y)) (sym (e t)) (NoLineEnd.last_return refl)

    go : {w : Where} {k n p : ℕ} {s : List ℕ} → Faulty ends w k s n p → Faulty true w k (s ++ z) n p
    go (Faulty.long o n) = Faulty.long o (no_line_stays n)
    go Faulty.long_inside = Faulty.long_inside
    go (Faulty.after_quote i n c q) = Faulty.after_quote i (no_line_stays n) c q
    go (Faulty.in_fresh i n c q t) = Faulty.in_fresh i (no_line_stays n) c q t
    go (Faulty.in_text i n c t) = Faulty.in_text i (no_line_stays n) c t
    go (Faulty.in_quotes i q t) = Faulty.in_quotes i q t
    go (Faulty.unclosed {o} {k} t m) = subst (λ (y : List ℕ). Faulty true (Where.inside o) k y 25 o) (sym (e t)) (Faulty.unclosed refl m)

-- ---- one record

-- the record at the front of s takes n bytes, its line end with it, and t is written for it
record Took (N : Naming) (ends : Bool) (o : ℕ) (s : List ℕ) (n : ℕ) (t : List ℕ) : Type 0 where
  bytes : List ℕ
  fields : List (List ℕ)
  is : Record bytes fields
  short : length bytes ≤ longest_record
  closes : Closes ends bytes s n
  written : Imported N (outcome_of o fields) t

-- the line buffer holds the line of its fields
held_listed : {N : Naming} (b f g : List ℕ) {t : List ℕ} → length (line_of f g) ≤ longest_record → HeldLine N (put b 0 (line_of f g)) (length (line_of f g)) t → Listed N (line_of f g) t
held_listed {N} b f g h (HeldLine.held_line (HeldAnswer.short {a} i q) x) = listed (subst (λ (y : List ℕ). LineAnswer N y a) (take_at (line_of f g) (drop (0 + length (line_of f g)) b) (length (line_of f g)) refl) q) x.is
held_listed b f g h (HeldLine.held_line (HeldAnswer.long i) x) = absurd (omega arith)

took_entry : {N : Naming} {ends : Bool} (o : ℕ) {s b l t : List ℕ} {k n : ℕ} → k ≤ longest_record → Scans ends s b l (Scan'.Entry k n) → HeldLine N l k t → Took N ends o s n t
took_entry o {b = b} i (Scans.entry {l} {f} {g} p h c) x = record { bytes = l; fields = f ∷ g ∷ []; is = p; short = h; closes = c; written = Imported.listed (held_listed b f g i x) }

other_count : (o : ℕ) (fs : List (List ℕ)) → (length fs ≡ 2 → ⊥) → refused 27 o ≡ outcome_of o fs
other_count o [] h = refl
other_count o (f ∷ []) h = refl
other_count o (f ∷ g ∷ []) h = absurd (h refl)
other_count o (f ∷ g ∷ i ∷ fs) h = refl

took_miscounted : {N : Naming} {ends : Bool} (o : ℕ) {s b l t : List ℕ} {n : ℕ} → Scans ends s b l (Scan'.Miscounted n) → LineOut (Err (refusal 27 o (pos 0))) t → Took N ends o s n t
took_miscounted {N} o {t = t} (Scans.miscounted {l} {fs} p f h c) x = record { bytes = l; fields = fs; is = p; short = h; closes = c; written = subst (λ (r : Outcome). Imported N r t) (other_count o fs f) (Imported.told x.is) }

none_written : {N : Naming} {rs : List Outcome} {t : List ℕ} → AllImported N rs t → rs ≡ [] → t ≡ []
none_written AllImported.none e = refl
none_written (AllImported.next p q) e = absurd (omega (arith, ap length e))

gives_nothing : {N : Naming} {o : ℕ} {s t : List ℕ} → Gives N o s t → s ≡ [] → t ≡ []
gives_nothing {o = o} g e = none_written g.written (reads_one (subst (λ (y : List ℕ). Reads o y g.outcomes) e g.reads) Reads.none)

-- what comes after it in the file is at the offset o + n
took_gives : {N : Naming} {ends : Bool} {o n : ℕ} {s t : List ℕ} → Took N ends o s n t → 0 < length s → (z : List ℕ) {v : List ℕ} → (ends ≡ true → z ≡ []) → Gives N (o + n) (drop n s ++ z) v → Gives N o (s ++ z) (t ++ v)
took_gives {N} {ends} {o} {n} {s} {t} k h z {v} c g = by k.closes
  where
    by : Closes ends k.bytes s n → Gives N o (s ++ z) (t ++ v)
    by (Closes.line_end {e} r x d m) =
        let l = k.bytes in
        let rest : drop n s ≡ r = ap₂ drop m d ∙ ap (drop (length l + length e)) (sym (append_assoc l e r)) ∙ drop_at (l ++ e) r (length l + length e) (length-append l e) in
        let all : s ++ z ≡ l ++ (e ++ (r ++ z)) = ap (λ (y : List ℕ). y ++ z) d ∙ append_assoc l (e ++ r) z ∙ ap (λ (y : List ℕ). l ++ y) (append_assoc e r z) in
        record {
          outcomes = outcome_of o k.fields ∷ g.outcomes;
          reads = subst (λ (y : List ℕ). Reads o y (outcome_of o k.fields ∷ g.outcomes)) (sym all)
              (Reads.more k.is k.short x (subst (λ (i : ℕ). Reads (o + i) (r ++ z) g.outcomes) m (subst (λ (y : List ℕ). Reads (o + n) (y ++ z) g.outcomes) rest g.reads)));
          written = AllImported.next k.written g.written;
        }
    by (Closes.text_ends e d m) =
        let l = k.bytes in
        let none : drop n s ++ z ≡ [] = ap₂ (λ (y w : List ℕ). y ++ w) (ap₂ drop m d ∙ drop-length l) (c e) in
        let all : s ++ z ≡ l = ap₂ (λ (y w : List ℕ). y ++ w) d (c e) ∙ append-nil l in
        record {
          outcomes = outcome_of o k.fields ∷ [];
          reads = subst (λ (y : List ℕ). Reads o y (outcome_of o k.fields ∷ [])) (sym all) (Reads.last k.is (omega (arith, ap length d)) k.short);
          written = subst (λ (y : List ℕ). AllImported N (outcome_of o k.fields ∷ []) (t ++ y)) (sym (gives_nothing g none)) (AllImported.next k.written AllImported.none);
        }

-- a fault ends it
stop_gives : {N : Naming} {ends : Bool} {o : ℕ} {s b l t : List ℕ} {n p : ℕ} → Scans ends s b l (Scan'.Stops n p) → LineOut (Err (refusal n (o + p) (pos 0))) t → (z : List ℕ) → (ends ≡ true → z ≡ []) → Gives N o (s ++ z) (t ++ [])
stop_gives {o = o} {t = t} {n} {p} (Scans.stops {l} {r} e b v) x z c =
    record {
      outcomes = refused n (o + p) ∷ [];
      reads = subst (λ (y : List ℕ). Reads o y (refused n (o + p) ∷ [])) (sym (ap (λ (y : List ℕ). y ++ z) e ∙ append_assoc l r z)) (Reads.stops b (faulty_stays z c v));
      written = AllImported.next (Imported.told x.is) AllImported.none;
    }

-- ---- one call

-- what is left to be written, by why the call stopped: nothing, where a refusal has ended the import
pub data Rest (N : Naming) (o : ℕ) (s : List ℕ) : Stopped → List ℕ → Type 0 where
  over : Rest N o s Stopped.Ended []
  full : {v : List ℕ} → Gives N o s v → Rest N o s Stopped.Full v
  spent : {v : List ℕ} → Gives N o s v → Rest N o s Stopped.Spent v

-- a call on the text b, which stands at the offset o of the file: t is what it has written. Whatever z comes after b, with what is left to be written it
-- is what the definition says of the text from where the call began
pub record CallGives (N : Naming) (ends : Bool) (o : ℕ) (b : List ℕ) (s e : ImportState) (w : Stopped) : Type 0 where
  pub text : List ℕ
  pub out_is : e.out ≡ put s.out s.used text
  pub used_is : e.used ≡ s.used + length text
  pub room : s.used + length text ≤ length s.out
  pub within : e.at ≤ length b
  pub gives : (z v : List ℕ) → (ends ≡ true → z ≡ []) → Rest N (o + e.at) (drop e.at b ++ z) w v → Gives N (o + s.at) (drop s.at b ++ z) (text ++ v)

-- what a record comes to, in a text that ends before the greatest offset
took : {N : Naming} {ends : Bool} {o : ℕ} {b : List ℕ} {s : ImportState} {l x : List ℕ} {i u : ℕ} → o + length b ≤ most_place → s.at < length b → s.used + longest_line ≤ length s.out → TakesRecord N ends o b s l x (Taken.Written i u)
    → (n : ℕ) × (t : List ℕ) × Took N ends (o + s.at) (drop s.at b) n t × (i ≡ s.at + n) × (x ≡ put s.out s.used t) × (u ≡ s.used + length t) × (s.used + length t ≤ length s.out)
took {o = o} {s = s} h k r (TakesRecord.entry {t = t} {n = n} p q) = (n, t, took_entry (o + s.at) (entry_short p) p q, refl, refl, refl, omega (arith, held_short q))
took {o = o} {b} {s} h k r (TakesRecord.miscounted {t = t} {n} p q) =
    (n, t, took_miscounted (o + s.at) p (subst (λ (i : ℕ). LineOut (Err (refusal 27 i (pos 0))) t) (min-eq_left (within o s.at (length b) h k)) q), refl, refl, refl, omega (arith, q.short))
  where
    within : (o a b : ℕ) → o + b ≤ most_place → a < b → o + a ≤ most_place
    within o a b h k = omega arith

-- the place of a fault lies in the record
inside_within : {l : List ℕ} {w : Where} {fs : List (List ℕ)} {f : List ℕ} (o : ℕ) → Begun l w fs f → w ≡ Where.inside o → o ≤ length l
inside_within o (Begun.fresh r) e = let z : ◌≡◌ {A = ℕ} 0 1 = cc in absurd (omega arith)
inside_within o (Begun.text r m h) e = let z : ◌≡◌ {A = ℕ} 0 1 = cc in absurd (omega arith)
inside_within o (Begun.inside {l} {m} r q) e = let z : length l ≡ o = cc in omega (arith, length-append l (34 ∷ m))
inside_within o (Begun.closed r q) e = let z : ◌≡◌ {A = ℕ} 0 1 = cc in absurd (omega arith)

faulty_within : {ends : Bool} {l : List ℕ} {w : Where} {fs : List (List ℕ)} {f : List ℕ} {k n p : ℕ} {s : List ℕ} → Begun l w fs f → Faulty ends w k s n p → k ≡ length l → p ≤ length l
faulty_within b (Faulty.long o n) e = omega arith
faulty_within b Faulty.long_inside e = omega arith
faulty_within b (Faulty.after_quote i n c q) e = omega arith
faulty_within b (Faulty.in_fresh i n c q t) e = omega arith
faulty_within b (Faulty.in_text i n c t) e = omega arith
faulty_within b (Faulty.in_quotes i q t) e = omega arith
faulty_within b (Faulty.unclosed {o} t m) e = inside_within o b refl

stops_within : {ends : Bool} {s b l : List ℕ} {n p : ℕ} → Scans ends s b l (Scan'.Stops n p) → p ≤ length s
stops_within (Scans.stops {l} {r} e b v) = omega (arith, ap length e, length-append l r, faulty_within b v refl)

-- the place of a fault, in a text that ends before the greatest offset
place_is : (o a p : ℕ) (b : List ℕ) → o + length b ≤ most_place → a < length b → p ≤ length (drop a b) → place_of (place_of o a) p ≡ o + a + p
place_is o a p b h k i = ap (λ (j : ℕ). place_of j p) (min-eq_left (first o a (length b) h k)) ∙ min-eq_left (second o a p (length b) (length (drop a b)) (length-drop a b) h k i)
  where
    first : (o a n : ℕ) → o + n ≤ most_place → a < n → o + a ≤ most_place
    first o a n h k = omega arith

    second : (o a p n d : ℕ) → d ≡ n - a → o + n ≤ most_place → a < n → p ≤ d → o + a + p ≤ most_place
    second o a p n d e h k i = omega arith

full_gives : {N : Naming} {o : ℕ} {s v : List ℕ} → Rest N o s Stopped.Full v → Gives N o s v
full_gives (Rest.full g) = g

spent_gives : {N : Naming} {o : ℕ} {s v : List ℕ} → Rest N o s Stopped.Spent v → Gives N o s v
spent_gives (Rest.spent g) = g

module _ {N : Naming} {ends : Bool} {o : ℕ} {b : List ℕ} (h : o + length b ≤ most_place) where
  -- nothing is written
  call_none : {s : ImportState} {l : List ℕ} {w : Stopped} → s.at ≤ length b → s.used ≤ length s.out → ((z v : List ℕ) → Rest N (o + s.at) (drop s.at b ++ z) w v → Gives N (o + s.at) (drop s.at b ++ z) v)
      → CallGives N ends o b s (import_state s.at l s.out s.used) w
  call_none {s} k i f = record { text = []; out_is = sym (put_none s.out s.used); used_is = omega arith; room = omega arith; within = k; gives = λ z v c r. f z v r }

  pub call_gives : {s e : ImportState} {w : Stopped} → s.at ≤ length b → s.used ≤ length s.out → Imports N ends o b s e w → CallGives N ends o b s e w
  call_gives {s} k i (Imports.spent x) = call_none k i (λ z v r. spent_gives r)
  call_gives {s} k i (Imports.full x y) = call_none k i (λ z v r. full_gives r)
  call_gives {s} k i (Imports.cut x y (TakesRecord.cut p)) = call_none k i (λ z v r. spent_gives r)
  call_gives {s} k i (Imports.ended x y (TakesRecord.stops {t = t} {n} {p} q g)) =
      record {
        text = t;
        out_is = refl;
        used_is = refl;
        room = omega (arith, g.short);
        within = k;
        gives = λ z v c r. ended z c r;
      }
    where
      ended : {v : List ℕ} (z : List ℕ) → (ends ≡ true → z ≡ []) → Rest N (o + s.at) (drop s.at b ++ z) Stopped.Ended v → Gives N (o + s.at) (drop s.at b ++ z) (t ++ v)
      ended z c Rest.over = stop_gives q (subst (λ (j : ℕ). LineOut (Err (refusal n j (pos 0))) t) (place_is o s.at p b h x (stops_within q)) g) z c
  call_gives {s} {e} {w} k i (Imports.goes_on {l = l} {x} {i = a} {u} y r q m) =
      let (n, t, d, j, g, f, c) = took h y r q in
      let on = taken_on y q in
      let rest = call_gives on.1 (omega (arith, ap length g, length_put s.out s.used t c)) m in
      record {
        text = t ++ rest.text;
        out_is = rest.out_is ∙ ap₂ (λ (z : List ℕ) (v : ℕ). put z v rest.text) g f ∙ put_then s.out s.used t rest.text c;
        used_is = omega (arith, rest.used_is, f, length-append t rest.text);
        room = omega (arith, rest.room, f, ap length g, length_put s.out s.used t c, length-append t rest.text);
        within = rest.within;
        gives = λ z v p v'. subst (Gives N (o + s.at) (drop s.at b ++ z)) (sym (append_assoc t rest.text v)) (took_gives d (omega (arith, length-drop s.at b)) z p (moved n z j (rest.gives z v p v')));
      }
    where
      moved : (n : ℕ) (z : List ℕ) {t : List ℕ} → a ≡ s.at + n → Gives N (o + a) (drop a b ++ z) t → Gives N (o + s.at + n) (drop n (drop s.at b) ++ z) t
      moved n z {t} e g =
          subst (λ (j : ℕ). Gives N j (drop n (drop s.at b) ++ z) t) (sum o s.at n)
          (subst (λ (y : List ℕ). Gives N (o + (s.at + n)) (y ++ z) t) (sym (drop-drop n s.at b)) (subst (λ (j : ℕ). Gives N (o + j) (drop j b ++ z) t) e g))
        where
          sum : (i j k : ℕ) → i + (j + k) ≡ i + j + k
          sum i j k = omega arith

  -- where the file ends after the text, all of it is read, or a refusal has ended the import
  pub all_read : {s e : ImportState} {w : Stopped} → ends ≡ true → w ≡ Stopped.Spent → Imports N ends o b s e w → length b ≤ e.at
  all_read t d (Imports.spent x) = x
  all_read t d (Imports.full x y) = let z : ◌≡◌ {A = ℕ} 0 1 = cc in absurd (omega arith)
  all_read t d (Imports.cut x y (TakesRecord.cut (Scans.undecided f u))) = absurd (true≢false (sym t ∙ f))
  all_read t d (Imports.ended x y q) = let z : ◌≡◌ {A = ℕ} 0 1 = cc in absurd (omega arith)
  all_read t d (Imports.goes_on x y q m) = all_read t d m
