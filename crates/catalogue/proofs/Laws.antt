-- Why the functions meet their promises.
-- Assumes nothing.
use Rattle.std.specs.Prelude.{ℕ, ◌+◌, ◌≤◌, ◌<◌, ◌^◌, ◌≡◌, refl, List, ◌∷◌, Bool, false, length, take, ℤ, pos, Result, Ok, Err, Option, Some, None, ok_or}
use Rattle.std.proofs.Common.{sym, ◌∙◌, ap, subst, arith, length-append, take_at, to_z, of_z, to_z-of_z}
use Rattle.std.specs.Int.{w32}
use Rattle.days.specs.ReformationRules.{accepted, refused_1, refused_2, Judged, all_three}
use Rattle.days.specs.DayByDay.{Is32Bit, AcceptedReformation}
use Rattle.switches.specs.declared.reformation.ReformingError.{ReformingError}
use Rattle.switches.specs.Promise.{Judges, number_of, accepts_biased, refuses_with_1, refuses_with_2}
use Rattle.switches.specs.JudgingLaws.{refused_not}
use Rattle.refusals.specs.declared.Refusal.{Refusal}
use Rattle.refusals.specs.Promise.{refusal}
use Rattle.calendar.specs.Rows.{refuses, passes}
use Rattle.calendar.specs.declared.Calendar.{Calendar}
use Rattle.calendar.specs.declared.Calendar.TheVariants.{Reforming}
use Rattle.ncal.specs.Promise.{Known, InTable, FoundAs, in_table, in_no_row}
use Rattle.nametable.specs.Limits.{most_lines, most_name}
use Rattle.nametable.specs.Promise.{Finds, Enters, no_slot, no_room, enters}
use Rattle.nametable.specs.declared.Names.{Names}
use Rattle.nametable.specs.Houses.{house}
use Rattle.whole.specs.Text.{tab}
use Rattle.houseline.specs.Form.{Form, form}
use Rattle.houseline.specs.Laws.{leaves_place}
use Rattle.houseline.specs.Promise.{house_read, Reads, reads, outside, malformed}
use Rattle.houseline.specs.declared.House.{House}
use Rattle.houseline.specs.declared.NoHouse.{NoHouse}
use Rattle.bytesearch.specs.One.{never}
use Rattle.catalogue.specs.Catalogue.{LineMeaning, holds, Formed, OfName, leaves, of_form, OfReformation, of_reformation}
use Rattle.catalogue.specs.Promise.{TakenIn, FreeIn, IsTaken, CarriesOut, left_as, added, AddsHouse, adds_house, Adds, made_up, adds, HouseCalendar, NamesIn, unknown}

-- ---- a name that is built in, or not

-- what was looked up says it
abbrev LooksUp : List ℕ → Option Calendar → Type 0
LooksUp s (Some c) = InTable s c
LooksUp s None = ¬ Known s

looks_up : {s : List ℕ} {f : Option Calendar} → FoundAs s f → LooksUp s f
looks_up (in_table m) = m
looks_up (in_no_row n) = n

pub in_row : {s : List ℕ} {c : Calendar} → FoundAs s (Some c) → InTable s c
in_row = looks_up

pub not_built_in : {s : List ℕ} → FoundAs s None → ¬ Known s
not_built_in = looks_up

-- ---- a house calendar

pub house_accepted : {z y : ℤ} {k : ℕ} → y ≡ z → Judges y (Ok k) → HouseCalendar z (Ok (Reforming y))
house_accepted {z} {y} e (accepts_biased (all_three a) d) = passes (subst AcceptedReformation e a) (ap (λ (x : ℤ). Ok (Reforming x)) e)

pub house_refused : {z y : ℤ} {why : ReformingError} {f : Refusal} → y ≡ z → Judges y (Err why) → f ≡ refusal 16 0 (pos 0) → HouseCalendar z (Err f)
house_refused {z} {y} e j g = subst (λ (x : Refusal). HouseCalendar z (Err x)) (sym g) (refuses (λ a. refused_not j (all_three (subst AcceptedReformation (sym e) a))))

-- ---- 23, 24, 1, 2, or the calendar

few_lines : {n : ℕ} → n < most_lines → ¬ (most_lines < n + 1)
few_lines h k = omega arith

module _ {m : Names} {n : ℕ} {s : List ℕ} {z : ℤ} where
  pub house_taken : {f : Refusal} → TakenIn m s → f ≡ refusal 23 (n + 1) (pos 0) → AddsHouse m n s z m (Err f)
  house_taken t e = subst (λ (x : Refusal). AddsHouse m n s z m (Err x)) (sym e) (adds_house (refuses t) left_as)

  module _ (f : FreeIn m s) where
    pub house_over : {g : Refusal} → most_lines ≤ n → g ≡ refusal 24 (n + 1) (pos 0) → AddsHouse m n s z m (Err g)
    house_over h e = subst (λ (x : Refusal). AddsHouse m n s z m (Err x)) (sym e) (adds_house (passes f (refuses (omega arith))) left_as)

    module _ (h : n < most_lines) where
      judged_adds : {e : LineMeaning} {m' : Names} {a : Result ℕ Refusal} → OfReformation (n + 1) s z e → CarriesOut m n e m' a → AddsHouse m n s z m' a
      judged_adds o r = adds_house (passes f (passes (few_lines h) o)) r

      pub house_judged : {y : ℤ} {why : ReformingError} {g : Refusal} → y ≡ z → Judges y (Err why) → g ≡ refusal (number_of why) (n + 1) z → AddsHouse m n s z m (Err g)
      house_judged e j d = subst (λ (x : Refusal). AddsHouse m n s z m (Err x)) (sym d) (by e j)
        where
          by : {y : ℤ} {why : ReformingError} → y ≡ z → Judges y (Err why) → AddsHouse m n s z m (Err (refusal (number_of why) (n + 1) z))
          by e (refuses_with_1 x) = judged_adds (of_reformation (subst (λ (r : ℤ). Judged r refused_1) e x)) left_as
          by e (refuses_with_2 x) = judged_adds (of_reformation (subst (λ (r : ℤ). Judged r refused_2) e x)) left_as

      pub house_added : {y w : ℤ} {k : ℕ} {m' : Names} {b : Bool} → y ≡ z → w ≡ z → Judges y (Ok k) → length s ≤ most_name → Enters m n s w m' b → AddsHouse m n s z m' (Ok (n + 1))
      house_added {m' = m'} e i j l t = by i t
        where
          holds_it : OfReformation (n + 1) s z (holds (house s z))
          holds_it = go e j
            where
              go : {y : ℤ} {k : ℕ} → y ≡ z → Judges y (Ok k) → OfReformation (n + 1) s z (holds (house s z))
              go e (accepts_biased x d) = of_reformation (subst (λ (r : ℤ). Judged r accepted) e x)

          by : {w : ℤ} {m' : Names} {b : Bool} → w ≡ z → Enters m n s w m' b → AddsHouse m n s z m' (Ok (n + 1))
          by i (no_slot k) = absurd (omega arith)
          by i (no_room k) = absurd (omega arith)
          by i (enters d k o u) = judged_adds holds_it (added d (u ∙ i))

pub house_over_told : {m : Names} {n : ℕ} {s : List ℕ} {z : ℤ} {t : Bool} {g : Refusal} → IsTaken m s t → t ≡ false → most_lines ≤ n → g ≡ refusal 24 (n + 1) (pos 0) → AddsHouse m n s z m (Err g)
house_over_told {m} {s = s} t e = house_over (subst (IsTaken m s) e t)

-- ---- a line by its form

form_front : {l s : List ℕ} {z : ℤ} → Form l s z → (take (length s) l ≡ s) × (length s ≤ length l) × (length s ≤ most_name)
form_front (form {name} {text} w v h) = (take_at name (tab ∷ text) (length name) refl, omega (arith, length-append name (tab ∷ text)), w.short)

reads_form : {l : List ℕ} {r : Result House NoHouse} {end : ℕ} {z : ℤ} → r ≡ house_read end z → Reads l r → (s : List ℕ) × (end ≡ length s) × Form l s z × Is32Bit z
reads_form {end = end} {z} e (reads {name} {z = y} f h) =
    let q : ◌≡◌ {A = House} (record { name_end = length name; number = y }) (record { name_end = end; number = z }) = cc in
    let i : length name ≡ end = ap (λ (x : House). x.name_end) q in
    let j : y ≡ z = ap (λ (x : House). x.number) q in
    (name, sym i, subst (Form _ name) j f, subst Is32Bit j h)
reads_form e (outside f h) = let z : ◌≡◌ {A = ℕ} 0 1 = cc in absurd (never z)
reads_form e (malformed n) = let z : ◌≡◌ {A = ℕ} 0 1 = cc in absurd (never z)

pub house_fits : {l : List ℕ} {end : ℕ} {z : ℤ} → Reads l (house_read end z) → (end ≤ length l) × (end ≤ most_name)
house_fits {l} r =
    let (s, e, f, h) = reads_form refl r in
    let (t, a, b) = form_front f in
    (subst (λ (k : ℕ). k ≤ length l) (sym e) a, subst (λ (k : ℕ). k ≤ most_name) (sym e) b)

-- the place at which a number leaves 32 bits is in the line
pub place_fits : {l : List ℕ} {f : Refusal} → Reads l (Err (NoHouse.Outside f)) → f.place < 2 ^ 32
place_fits (outside g k) = omega (arith, leaves_place g k)

module _ {m : Names} {n : ℕ} {l : List ℕ} (h : n ≤ most_lines) where
  pub line_malformed : {f : Refusal} → Reads l (Err NoHouse.Malformed) → f ≡ refusal 22 (n + 1) (pos 0) → Adds m n l m (Err f)
  line_malformed r e = subst (λ (x : Refusal). Adds m n l m (Err x)) (sym e) (adds h (refuses (none refl r)) left_as)
    where
      none : {a : Result House NoHouse} → a ≡ Err NoHouse.Malformed → Reads l a → ¬ Formed l
      none i (reads f k) = let z : ◌≡◌ {A = ℕ} 0 1 = cc in absurd (never z)
      none i (outside f k) = let z : ◌≡◌ {A = ℕ} 0 1 = cc in absurd (never z)
      none i (malformed o) = λ (s, z, f). o s z f

  pub line_outside : {f g : Refusal} → Reads l (Err (NoHouse.Outside f)) → g ≡ refusal f.number (n + 1) (pos f.place) → Adds m n l m (Err g)
  line_outside {f} r e = subst (λ (x : Refusal). Adds m n l m (Err x)) (sym e) (by r)
    where
      by : {f : Refusal} → Reads l (Err (NoHouse.Outside f)) → Adds m n l m (Err (refusal f.number (n + 1) (pos f.place)))
      by (outside {name} {z} g k) = adds h (passes (name, z, g) (leaves g k)) left_as

  pub line_added : {end : ℕ} {z : ℤ} {m' : Names} {a : Result ℕ Refusal} → Reads l (house_read end z) → AddsHouse m n (take end l) (to_z w32 (of_z w32 z)) m' a → Adds m n l m' a
  line_added {end} {z} r (adds_house {e = e} o t) =
      let (s, d, f, k) = reads_form refl r in
      let q : take end l ≡ s = ap (λ (j : ℕ). take j l) d ∙ (form_front f).0 in
      adds h (passes (s, z, f) (of_form f k (subst (λ (x : ℤ). OfName (TakenIn m) (FreeIn m) (n + 1) s x e) (to_z-of_z k) (subst (λ (x : List ℕ). OfName (TakenIn m) (FreeIn m) (n + 1) x (to_z w32 (of_z w32 z)) e) q o)))) t

-- a name that is not found is unknown
pub unknown_in : {m : Names} {s : List ℕ} {o : Option ℤ} {f g : Refusal} → ¬ Known s → Finds m s o → g ≡ refusal 19 0 (pos 0) → Err f ≡ ok_or o g → NamesIn m s (Err f)
unknown_in {o = Some z} n w e i = let z : ◌≡◌ {A = ℕ} 0 1 = cc in absurd (never z)
unknown_in {m} {s} {o = None} {f} n w e i = let j : f ≡ refusal 19 0 (pos 0) = cc in subst (λ (x : Refusal). NamesIn m s (Err x)) (sym j) (unknown n w)

pub line_made_up : {m : Names} {n : ℕ} {l : List ℕ} {f : Refusal} → most_lines < n → f ≡ refusal 16 0 (pos 0) → Adds m n l m (Err f)
line_made_up {m} {n} {l} h e = subst (λ (x : Refusal). Adds m n l m (Err x)) (sym e) (made_up h)
