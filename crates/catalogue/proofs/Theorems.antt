-- THE THEOREMS ON A CATALOGUE. Every file has exactly one of the two meanings, whatever its bytes are (`means_some`; that it is one is in `One`).
-- Read line after line, it comes to that meaning (`reads_catalogue`). Every calendar that it gives is accepted (`catalogue_accepted`), so all that is
-- shown of accepted calendars holds of it; no two of its names are equal (`catalogue_distinct`), and none is built in (`catalogue_apart`). A name is
-- looked up as the catalogue says (`named_with`).
-- Assumes nothing.
use Rattle.std.specs.Prelude.{ℕ, zero, suc, ◌+◌, ◌≤◌, ◌<◌, ◌≡◌, refl, List, [], ◌∷◌, ◌++◌, length, ℤ, pos, Result, Ok, Err, Option, Some, None}
use Rattle.std.proofs.Common.{sym, ◌∙◌, ap, subst, append_assoc, append-nil, inl, inr, ⊎_elim, arith, not-suc-le-zero, length-append}
use Rattle.std.proofs.Math.ListN.{get_or-append}
use Rattle.std.proofs.Math.Seq.{get_or-append_seam}
use Rattle.days.specs.DayByDay.{AcceptedReformation, reforming_accepted}
use Rattle.days.proofs.ReformationTable.{judged_some}
use Rattle.days.specs.ReformationRules.{all_three, no_day_before, no_julian_day, not_later}
use Rattle.refusals.specs.declared.Refusal.{Refusal}
use Rattle.calendar.specs.Calendars.{Accepted}
use Rattle.calendar.specs.Rows.{refuses, passes}
use Rattle.calendar.specs.RowLaws.{One}
use Rattle.calendar.specs.declared.Calendar.{Calendar}
use Rattle.calendar.specs.declared.Calendar.TheVariants.{Reforming}
use Rattle.ncal.specs.Promise.{Known, InTable, of_row}
use Rattle.ncal.specs.Theorems.{table_accepted, named_row, known_or_not}
use Rattle.textlines.specs.Lines.{Lines}
use Rattle.textlines.specs.One.{lines_some}
use Rattle.nametable.specs.Limits.{most_lines}
use Rattle.whole.specs.Tests.{lt_or_ge}
use Rattle.nametable.specs.Hash.{bucket_of_value}
use Rattle.nametable.specs.Promise.{memory, entered, linked}
use Rattle.nametable.specs.declared.Names.{Names}
use Rattle.nametable.specs.Houses.{House, house, name_at, line_at}
use Rattle.nametable.specs.Holds.{Holds, Has, has, has_not}
use Rattle.nametable.specs.Theorems.{finds_has, enter_holds}
use Rattle.houseline.specs.Form.{Form, form, Name}
use Rattle.houseline.specs.Theorems.{Decided, form_or_not}
use Rattle.houseline.specs.Laws.{fits_or_leaves}
use Rattle.catalogue.specs.Catalogue as C
use Rattle.catalogue.specs.Catalogue.{LineMeaning, holds, OfReformation, of_reformation, OfName, OfForm, leaves, of_form, OfLine, Named, Taken, LineMeans, Hold, Meaning, catalogue, refused_by, Means, all_hold, first_refused, NamesWith, of_house}
use Rattle.catalogue.specs.Promise as R
use Rattle.catalogue.specs.Promise.{TakenIn, FreeIn, CarriesOut, left_as, added, Adds, made_up, adds, HouseCalendar, NamesIn, held}
use Rattle.bytesearch.specs.One.{never}
use Rattle.catalogue.proofs.One.{Run, ends, next, stops, means_one}
use Rattle.ncal.specs.Laws.{same_or_other}
pub use Rattle.catalogue.specs.Theorems.{Reading, read_all, read_on, read_refused, Read, is_catalogue, is_refused}

-- ---- a line that holds a calendar

record Good (n : ℕ) (F : List ℕ → Type 0) (h : House) : Type 0 where
  few : n ≤ most_lines
  name : Name h.name
  accepted_is : AcceptedReformation h.number
  free : F h.name

module _ (T F : List ℕ → Type 0) (n : ℕ) (l : List ℕ) (h : House) where
  judged_good : {s : List ℕ} {z : ℤ} {e : LineMeaning} → e ≡ holds h → n ≤ most_lines → Name s → F s → OfReformation n s z e → Good n F h
  judged_good {s} {z} e k w f (of_reformation (all_three a)) = let i : house s z ≡ h = cc in subst (Good n F) i (record { few = k; name = w; accepted_is = a; free = f })
  judged_good e k w f (of_reformation (no_day_before x)) = let z : ◌≡◌ {A = ℕ} 0 1 = cc in absurd (never z)
  judged_good e k w f (of_reformation (no_julian_day x y)) = let z : ◌≡◌ {A = ℕ} 0 1 = cc in absurd (never z)
  judged_good e k w f (of_reformation (not_later x y v)) = let z : ◌≡◌ {A = ℕ} 0 1 = cc in absurd (never z)

  name_good : {s : List ℕ} {z : ℤ} {e : LineMeaning} → e ≡ holds h → Name s → OfName T F n s z e → Good n F h
  name_good e w (refuses t) = let z : ◌≡◌ {A = ℕ} 0 1 = cc in absurd (never z)
  name_good e w (passes f (refuses k)) = let z : ◌≡◌ {A = ℕ} 0 1 = cc in absurd (never z)
  name_good e w (passes f (passes k o)) = judged_good e (not_over k) w f o
    where
      not_over : ¬ (most_lines < n) → n ≤ most_lines
      not_over k = ⊎_elim (λ i. absurd (k i)) (λ i. i) (lt_or_ge most_lines n)

  form_good : {e : LineMeaning} → e ≡ holds h → OfForm T F n l e → Good n F h
  form_good e (leaves f k) = let z : ◌≡◌ {A = ℕ} 0 1 = cc in absurd (never z)
  form_good e (of_form f k o) = name_good e (name_of f) o
    where
      name_of : {l s : List ℕ} {z : ℤ} → Form l s z → Name s
      name_of (form w v i) = w

  line_good' : {e : LineMeaning} → e ≡ holds h → OfLine T F n l e → Good n F h
  line_good' e (refuses k) = let z : ◌≡◌ {A = ℕ} 0 1 = cc in absurd (never z)
  line_good' e (passes k o) = form_good e o

line_good : {T F : List ℕ → Type 0} {n : ℕ} {l : List ℕ} {h : House} → OfLine T F n l (holds h) → Good n F h
line_good {T} {F} {n} {l} {h} o = line_good' T F n l h refl o

-- ---- taken and free in the memory, and in the list that it holds

module _ {m : Names} {hs : List House} (g : Holds m hs) where
  has_named : {s : List ℕ} {a : Option ℤ} {z : ℤ} → a ≡ Some z → Has hs s a → Named hs s
  has_named e (has k h i) = (k, h, i)
  has_named e (has_not o) = let z : ◌≡◌ {A = ℕ} 0 1 = cc in absurd (never z)

  not_named : {s : List ℕ} {a : Option ℤ} → a ≡ None → Has hs s a → ¬ Named hs s
  not_named e (has k h i) = let z : ◌≡◌ {A = ℕ} 0 1 = cc in absurd (never z)
  not_named e (has_not o) = λ (k, h, i). o k h i

  taken_in : (s : List ℕ) → TakenIn m s → Taken hs s
  taken_in s (inl k) = inl k
  taken_in s (inr (z, f)) = inr (has_named refl (finds_has g s f))

  free_in : (s : List ℕ) → FreeIn m s → ¬ Taken hs s
  free_in s (n, f) (inl k) = n k
  free_in s (n, f) (inr w) = not_named refl (finds_has g s f) w

module _ {T F T' F' : List ℕ → Type 0} (t : (s : List ℕ) → T s → T' s) (f : (s : List ℕ) → F s → F' s) where
  name_map : {n : ℕ} {s : List ℕ} {z : ℤ} {e : LineMeaning} → OfName T F n s z e → OfName T' F' n s z e
  name_map {s = s} (refuses a) = refuses (t s a)
  name_map {s = s} (passes a o) = passes (f s a) o

  line_map : {n : ℕ} {l : List ℕ} {e : LineMeaning} → OfLine T F n l e → OfLine T' F' n l e
  line_map (refuses k) = refuses k
  line_map (passes k (leaves w i)) = passes k (leaves w i)
  line_map (passes k (of_form w i o)) = passes k (of_form w i (name_map o))

-- ---- a line added to memory that holds a list

module _ {m : Names} {hs : List House} (g : Holds m hs) {l : List ℕ} where
  lined : {e : LineMeaning} → OfLine (TakenIn m) (FreeIn m) (length hs + 1) l e → LineMeans hs l e
  lined = line_map (taken_in g) (free_in g)

  result_adds : {n k : ℕ} {e : LineMeaning} {m' : Names} {a : Result ℕ Refusal} → n ≡ length hs → a ≡ Ok k → OfLine (TakenIn m) (FreeIn m) (n + 1) l e → CarriesOut m n e m' a
      → (h : House) × LineMeans hs l (holds h) × Holds m' (hs ++ (h ∷ [])) × (k ≡ length (hs ++ (h ∷ [])))
  result_adds i j o left_as = let z : ◌≡◌ {A = ℕ} 0 1 = cc in absurd (never z)
  result_adds {n} {k} i j o (added {s} {z} d u) =
      let b : Good (n + 1) (FreeIn m) (house s z) = line_good o in
      let q : n + 1 ≡ k = cc in (
        house s z,
        lined (subst (λ (x : ℕ). OfLine (TakenIn m) (FreeIn m) (x + 1) l (holds (house s z))) i o),
        subst (λ (x : ℕ). Holds (memory (entered m.slots x s) (linked m.links x (bucket_of_value s) d)) (hs ++ (house s z ∷ []))) (sym i)
            (enter_holds g s z d (omega (arith, b.few)) b.name.short u),
        omega (arith, length-append hs (house s z ∷ [])),
      )

  adds_holds' : {n k : ℕ} {m' : Names} {a : Result ℕ Refusal} → n ≡ length hs → a ≡ Ok k → Adds m n l m' a
      → (h : House) × LineMeans hs l (holds h) × Holds m' (hs ++ (h ∷ [])) × (k ≡ length (hs ++ (h ∷ [])))
  adds_holds' i j (made_up h) = let z : ◌≡◌ {A = ℕ} 0 1 = cc in absurd (never z)
  adds_holds' i j (adds h o r) = result_adds i j o r

  -- a line that was added holds a calendar, and the memory holds it too
  pub adds_holds : {n k : ℕ} {m' : Names} → n ≡ length hs → Adds m n l m' (Ok k)
      → (h : House) × LineMeans hs l (holds h) × Holds m' (hs ++ (h ∷ [])) × (k ≡ length (hs ++ (h ∷ [])))
  adds_holds i w = adds_holds' i refl w

  result_refused : {n : ℕ} {e : LineMeaning} {m' : Names} {a : Result ℕ Refusal} {f : Refusal} → n ≡ length hs → a ≡ Err f → OfLine (TakenIn m) (FreeIn m) (n + 1) l e → CarriesOut m n e m' a → LineMeans hs l (C.refuses f) × (m' ≡ m)
  result_refused {n} {f = f} i j o (left_as {f = q}) =
      let p : q ≡ f = cc in
      (lined (subst (λ (x : ℕ). OfLine (TakenIn m) (FreeIn m) (x + 1) l (C.refuses f)) i (subst (λ (x : Refusal). OfLine (TakenIn m) (FreeIn m) (n + 1) l (C.refuses x)) p o)), refl)
  result_refused i j o (added d u) = let z : ◌≡◌ {A = ℕ} 0 1 = cc in absurd (never z)

  adds_refused' : {n : ℕ} {m' : Names} {a : Result ℕ Refusal} {f : Refusal} → n ≡ length hs → a ≡ Err f → Adds m n l m' a → LineMeans hs l (C.refuses f) × (m' ≡ m)
  adds_refused' i j (made_up h) = absurd (omega (arith, g.few))
  adds_refused' i j (adds h o r) = result_refused i j o r

  -- one that was refused is refused so, and the memory is as it was
  pub adds_refused : {n : ℕ} {m' : Names} {f : Refusal} → n ≡ length hs → Adds m n l m' (Err f) → LineMeans hs l (C.refuses f) × (m' ≡ m)
  adds_refused i w = adds_refused' i refl w

-- ---- a whole catalogue, line after line

-- lines that come after lines that hold
run_means : {input : List ℕ} {front ls : List (List ℕ)} {hs : List House} {m : Meaning} → Lines input (front ++ ls) → Hold front hs → Run hs ls m → Means input m
run_means {input} {front} {ls} {hs} w h ends = all_hold (subst (Lines input) (append-nil front) w) h
run_means {input} {front} w h (next {l = l} {ls = ks} p r) = run_means (subst (Lines input) (sym (append_assoc front (l ∷ []) ks)) w) (Hold.more h p) r
run_means w h (stops {ls = ks} p) = first_refused ks w h p

reading_means : {input : List ℕ} {front ls : List (List ℕ)} {hs : List House} {m m' : Names} {n : ℕ} {a : Result ℕ Refusal} → Lines input (front ++ ls) → Hold front hs → Holds m hs → n ≡ length hs → Reading m n ls m' a → Read input m' a
reading_means {input} {front} w h g i read_all = is_catalogue (run_means w h ends) g i
reading_means {input} {front} w h g i (read_on {l = l} {ls = ks} p r) =
    let (x, y, z, e) = adds_holds g i p in
    reading_means {front = front ++ (l ∷ [])} (subst (Lines input) (sym (append_assoc front (l ∷ []) ks)) w) (Hold.more h y) z e r
reading_means w h g i (read_refused p) = is_refused (run_means w h (stops (adds_refused g i p).0))

-- from memory that holds nothing
pub reads_catalogue : {input : List ℕ} {ls : List (List ℕ)} {m m' : Names} {a : Result ℕ Refusal} → Lines input ls → Holds m [] → Reading m 0 ls m' a → Read input m' a
reads_catalogue w g r = reading_means w Hold.none g (omega arith) r

-- two readings of one file come to the same
pub read_one : {input : List ℕ} {m₁ m₂ : Names} {a b : Result ℕ Refusal} → Read input m₁ a → Read input m₂ b → a ≡ b
read_one (is_catalogue {hs} p g i) (is_catalogue {hs = ks} q h j) =
    let e : catalogue hs ≡ catalogue ks = means_one p q in
    let d : hs ≡ ks = cc in
    ap Ok (i ∙ ap length d ∙ sym j)
read_one (is_catalogue {hs} p g i) (is_refused {f} q) = let e : catalogue hs ≡ refused_by f = means_one p q in let z : ◌≡◌ {A = ℕ} 0 1 = cc in absurd (never z)
read_one (is_refused {f} p) (is_catalogue {hs} q h j) = let e : catalogue hs ≡ refused_by f = means_one q p in let z : ◌≡◌ {A = ℕ} 0 1 = cc in absurd (never z)
read_one (is_refused {f} p) (is_refused {f = g} q) =
    let e : refused_by f ≡ refused_by g = means_one p q in
    let d : f ≡ g = cc in
    ap Err d

-- ---- the calendars of a catalogue are accepted, and its names are distinct and not built in

record Sound (hs : List House) : Type 0 where
  takes : (k : ℕ) → k < length hs → AcceptedReformation (line_at hs k).number
  house_names : (k : ℕ) → k < length hs → ¬ Known (name_at hs k)
  distinct : (j k : ℕ) → j < k → k < length hs → ¬ (name_at hs j ≡ name_at hs k)

sound_none : Sound []
sound_none = record { takes = λ k h. absurd (not-suc-le-zero h); house_names = λ k h. absurd (not-suc-le-zero h); distinct = λ j k i h. absurd (not-suc-le-zero h) }

module _ {hs : List House} {h : House} (g : Sound hs) (a : AcceptedReformation h.number) (f : ¬ Taken hs h.name) where
  longer : length (hs ++ (h ∷ [])) ≡ length hs + 1
  longer = length-append hs (h ∷ [])

  old : (k : ℕ) → k < length hs → line_at (hs ++ (h ∷ [])) k ≡ line_at hs k
  old k l = get_or-append hs (h ∷ []) (house [] (pos 0)) k l

  new : (k : ℕ) → length hs ≤ k → k < length (hs ++ (h ∷ [])) → line_at (hs ++ (h ∷ [])) k ≡ h
  new k i l = let e : k ≡ length hs = omega (arith, longer) in ap (line_at (hs ++ (h ∷ []))) e ∙ get_or-append_seam hs h [] (house [] (pos 0))

  sound_more : Sound (hs ++ (h ∷ []))
  sound_more = record {
    takes = λ k l. ⊎_elim
        (λ i. subst (λ (x : House). AcceptedReformation x.number) (sym (old k i)) (g.takes k i))
        (λ i. subst (λ (x : House). AcceptedReformation x.number) (sym (new k i l)) a)
        (lt_or_ge k (length hs));
    house_names = λ k l. ⊎_elim
        (λ i. subst (λ (x : House). ¬ Known x.name) (sym (old k i)) (g.house_names k i))
        (λ i. subst (λ (x : House). ¬ Known x.name) (sym (new k i l)) (λ w. f (inl w)))
        (lt_or_ge k (length hs));
    distinct = λ j k i l e. ⊎_elim
        (λ b. g.distinct j k i b (ap (λ (x : House). x.name) (sym (old j (omega arith))) ∙ e ∙ ap (λ (x : House). x.name) (old k b)))
        (λ b. f (inr (j, omega (arith, longer), ap (λ (x : House). x.name) (sym (old j (omega (arith, longer)))) ∙ e ∙ ap (λ (x : House). x.name) (new k b l))))
        (lt_or_ge k (length hs));
  }

hold_sound : {ls : List (List ℕ)} {hs : List House} → Hold ls hs → Sound hs
hold_sound Hold.none = sound_none
hold_sound (Hold.more w p) = let b = line_good p in sound_more (hold_sound w) b.accepted_is b.free

means_hold : {input : List ℕ} {m : Meaning} {hs : List House} → m ≡ catalogue hs → Means input m → (ls : List (List ℕ)) × Lines input ls × Hold ls hs
means_hold {hs = hs} e (all_hold {ls} {hs = ks} w h) = let i : ks ≡ hs = cc in (ls, w, subst (Hold ls) i h)
means_hold e (first_refused rest w h p) = let z : ◌≡◌ {A = ℕ} 0 1 = cc in absurd (never z)

means_sound : {input : List ℕ} {hs : List House} → Means input (catalogue hs) → Sound hs
means_sound p = let (ls, w, h) = means_hold refl p in hold_sound h

-- every calendar that a catalogue gives is accepted, so all that is shown of accepted calendars holds of it
pub catalogue_accepted : {input : List ℕ} {hs : List House} → Means input (catalogue hs) → (k : ℕ) → k < length hs → Accepted (Reforming (line_at hs k).number)
catalogue_accepted p k h = reforming_accepted ((means_sound p).takes k h)

-- no two of its names are equal, and none is built in
pub catalogue_distinct : {input : List ℕ} {hs : List House} → Means input (catalogue hs) → (j k : ℕ) → j < k → k < length hs → ¬ (name_at hs j ≡ name_at hs k)
catalogue_distinct p = (means_sound p).distinct

pub catalogue_apart : {input : List ℕ} {hs : List House} → Means input (catalogue hs) → (k : ℕ) → k < length hs → ¬ Known (name_at hs k)
catalogue_apart p = (means_sound p).house_names

-- ---- names

-- with a catalogue, a name means one thing
pub names_with_one : {input : List ℕ} {hs : List House} → Means input (catalogue hs) → (s : List ℕ) → One (NamesWith hs s)
names_with_one {hs = hs} p s a b (C.built_in (of_row x)) (C.built_in (of_row y)) = of_row_same x y
  where
    of_row_same : {c d : Calendar} → InTable s c → InTable s d → ◌≡◌ {A = Result Calendar Refusal} (Ok c) (Ok d)
    of_row_same x y = sym (named_row x (passes (_, y) (of_row y)))
names_with_one p s a b (C.built_in (of_row x)) (of_house n k h e) = absurd (n (_, x))
names_with_one p s a b (C.built_in (of_row x)) (C.unknown n o) = absurd (n (_, x))
names_with_one p s a b (of_house n k h e) (C.built_in (of_row x)) = absurd (n (_, x))
names_with_one {hs = hs} p s a b (of_house n k h e) (of_house m j i f) = ap (λ (x : ℕ). Ok (Reforming (line_at hs x).number)) same
  where
    same : k ≡ j
    same = ⊎_elim (λ l. absurd (catalogue_distinct p k j l i (e ∙ sym f))) (λ l. ⊎_elim (λ w. absurd (catalogue_distinct p j k w h (f ∙ sym e))) (λ w. omega arith) (lt_or_ge j k)) (lt_or_ge k j)
names_with_one p s a b (of_house n k h e) (C.unknown m o) = absurd (o (k, h, e))
names_with_one p s a b (C.unknown n o) (C.built_in (of_row x)) = absurd (n (_, x))
names_with_one p s a b (C.unknown n o) (of_house m k h e) = absurd (o (k, h, e))
names_with_one p s a b (C.unknown n o) (C.unknown m q) = refl

-- what is looked up in memory that holds the catalogue is what the catalogue says
module _ {input : List ℕ} {hs : List House} (p : Means input (catalogue hs)) {m : Names} (g : Holds m hs) where
  house_named : {s : List ℕ} {z : ℤ} {a : Result Calendar Refusal} {b : Option ℤ} → ¬ Known s → b ≡ Some z → Has hs s b → HouseCalendar z a → NamesWith hs s a
  house_named {s} {z} {a} n e (has k h i) (refuses o) = let j : (line_at hs k).number ≡ z = cc in absurd (o (subst AcceptedReformation j ((means_sound p).takes k h)))
  house_named {s} {z} {a} n e (has k h i) (passes o q) =
      let j : (line_at hs k).number ≡ z = cc in
      subst (NamesWith hs s) (ap (λ (x : ℤ). Ok (Reforming x)) j ∙ sym q) (of_house n k h i)
  house_named n e (has_not o) c = let z : ◌≡◌ {A = ℕ} 0 1 = cc in absurd (never z)

  pub named_with : {s : List ℕ} {a : Result Calendar Refusal} → NamesIn m s a → NamesWith hs s a
  named_with (R.built_in r) = C.built_in r
  named_with {s} (held n f c) = house_named n refl (finds_has g s f) c
  named_with {s} (R.unknown n f) = C.unknown n (not_named g refl (finds_has g s f))

-- whatever the memory holds, a calendar that is given is accepted
pub named_accepted : {m : Names} {s : List ℕ} {a : Result Calendar Refusal} → NamesIn m s a → {c : Calendar} → a ≡ Ok c → Accepted c
named_accepted (R.built_in (of_row {c = b} x)) {c} e = let i : b ≡ c = cc in subst Accepted i (table_accepted x)
named_accepted (held n f (refuses o)) e = let z : ◌≡◌ {A = ℕ} 0 1 = cc in absurd (never z)
named_accepted (held n {z} f (passes o q)) {c} e = let i : Reforming z ≡ c = cc in subst Accepted i (reforming_accepted o)
named_accepted (R.unknown n f) e = let z : ◌≡◌ {A = ℕ} 0 1 = cc in absurd (never z)

-- ---- and every file has a meaning, whatever its bytes are

named_or_not : (hs : List House) (s : List ℕ) → Decided (Named hs s)
named_or_not [] s = inr (λ (k, h, e). not-suc-le-zero h)
named_or_not (h ∷ hs) s = ⊎_elim
    (λ e. inl (zero, omega arith, e))
    (λ n. ⊎_elim
    (λ (k, i, e). inl (suc k, omega arith, e))
    (λ o. inr (λ (k, i, e). other n o k i e))
    (named_or_not hs s))
    (same_or_other h.name s)
  where
    other : ¬ (h.name ≡ s) → ¬ Named hs s → (k : ℕ) → k < length (h ∷ hs) → name_at (h ∷ hs) k ≡ s → ⊥
    other n o zero i e = n e
    other n o (suc k) i e = o (k, omega arith, e)

taken_or_not : (hs : List House) (s : List ℕ) → Decided (Taken hs s)
taken_or_not hs s = ⊎_elim
    (λ k. inl (inl k))
    (λ n. ⊎_elim (λ k. inl (inr k)) (λ o. inr (λ t. ⊎_elim (λ k. n k) (λ k. o k) t)) (named_or_not hs s))
    (known_or_not s)

pub line_some : (hs : List House) (l : List ℕ) → (e : LineMeaning) × LineMeans hs l e
line_some hs l = ⊎_elim (λ (s, z, f). by s z f) (λ n. (_, refuses (λ (s, z, f). n s z f))) (form_or_not l)
  where
    by : (s : List ℕ) (z : ℤ) → Form l s z → (e : LineMeaning) × LineMeans hs l e
    by s z f = ⊎_elim
        (λ i. ⊎_elim
        (λ t. (_, passes (s, z, f) (of_form f i (refuses t))))
        (λ t. ⊎_elim
        (λ o. (_, passes (s, z, f) (of_form f i (passes t (refuses o)))))
        (λ o. let (x, j) = judged_some z i in (_, passes (s, z, f) (of_form f i (passes t (passes (under o) (of_reformation j))))))
        (lt_or_ge most_lines (length hs + 1)))
        (taken_or_not hs s))
        (λ (g, k). (_, passes (s, z, f) (leaves f k)))
        (fits_or_leaves f)
      where
        under : length hs + 1 ≤ most_lines → ¬ (most_lines < length hs + 1)
        under h k = omega arith

run_some : (hs : List House) (ls : List (List ℕ)) → (m : Meaning) × Run hs ls m
run_some hs [] = (_, ends)
run_some hs (l ∷ ls) = go (λ h. run_some (hs ++ (h ∷ [])) ls) (line_some hs l)
  where
    go : ((h : House) → (m : Meaning) × Run (hs ++ (h ∷ [])) ls m) → (e : LineMeaning) × LineMeans hs l e → (m : Meaning) × Run hs (l ∷ ls) m
    go rest (holds h, p) = let (m, r) = rest h in (m, next p r)
    go rest (C.refuses f, p) = (_, stops p)

pub means_some : (input : List ℕ) → (m : Meaning) × Means input m
means_some input =
    let (ls, w) = lines_some input in
    let (m, r) = run_some [] ls in
    (m, run_means w Hold.none r)
