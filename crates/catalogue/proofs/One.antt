-- A line and a file mean one thing, and each promise allows one result, whatever the memory holds.
-- Assumes nothing.
use Rattle.std.specs.Prelude.{ℕ, ◌+◌, ◌^◌, ◌≡◌, refl, List, [], ◌∷◌, ◌++◌, length, ℤ, pos, Result, Err, Some, None}
use Rattle.std.proofs.Common.{sym, ◌∙◌, ap, ap₂, subst, append_assoc, append-nil, inl, inr, arith}
use Rattle.days.specs.DayByDay.{Is32Bit}
use Rattle.days.proofs.ReformationTable.{judged_one}
use Rattle.refusals.specs.declared.Refusal.{Refusal}
use Rattle.refusals.specs.Promise.{refusal}
use Rattle.calendar.specs.Rows.{passes}
use Rattle.calendar.specs.RowLaws.{One, row_one, unless_one, if_one, answers_one}
use Rattle.ncal.specs.Promise.{of_row}
use Rattle.ncal.specs.Theorems.{named_row}
use Rattle.textlines.specs.Lines.{Lines}
use Rattle.textlines.specs.One.{lines_one}
use Rattle.whole.specs.Biased.{unbias_injective}
use Rattle.nametable.specs.Hash.{bucket_of_value}
use Rattle.nametable.specs.Promise.{memory, entered, linked}
use Rattle.nametable.specs.declared.Names.{Names}
use Rattle.nametable.specs.Houses.{House, house}
use Rattle.nametable.specs.One.{finds_one}
use Rattle.houseline.specs.Laws.{fits_leaves}
use Rattle.houseline.specs.One.{form_one, leaves_same}
use Rattle.catalogue.specs.Catalogue as C
use Rattle.catalogue.specs.Catalogue.{LineMeaning, holds, judged_is, OfReformation, of_reformation, OfName, OfForm, leaves, of_form, OfLine, LineMeans, Hold, Meaning, catalogue, refused_by, Means, all_hold, first_refused}
use Rattle.catalogue.specs.Promise as R
use Rattle.catalogue.specs.Promise.{TakenIn, FreeIn, CarriesOut, left_as, added, Adds, made_up, adds, HouseCalendar, NamesIn, held}
use Rattle.bytesearch.specs.One.{never}
pub use Rattle.catalogue.specs.One.{Run, ends, next, stops}

-- ---- a line means one thing

of_reformation_one : (n : ℕ) (s : List ℕ) (r : ℤ) → One (OfReformation n s r)
of_reformation_one n s r a b (of_reformation p) (of_reformation q) = ap (judged_is n s r) (judged_one p q)

module _ {T F : List ℕ → Type 0} (apart : (s : List ℕ) → T s → F s → ⊥) (n : ℕ) where
  of_name_one : (s : List ℕ) (r : ℤ) → One (OfName T F n s r)
  of_name_one s r = row_one (apart s) (λ f. if_one (λ k. of_reformation_one n s r))

  of_form_one : (l : List ℕ) → One (OfForm T F n l)
  of_form_one l a b (leaves {f = f} p h) (leaves {f = g} q k) = ap (λ (x : Refusal). C.refuses (refusal x.number n (pos x.place))) (leaves_same l (form_one p q).0 h k)
  of_form_one l a b (leaves p h) (of_form q k o) = absurd (fits_leaves p (subst Is32Bit (form_one q p).1 k) h)
  of_form_one l a b (of_form p h o) (leaves q k) = absurd (fits_leaves q (subst Is32Bit (form_one p q).1 h) k)
  of_form_one l a b (of_form {s} {z} p h o) (of_form {s = t} {z = y} q k v) =
      let (i, j) = form_one p q in
      of_name_one s z a b o (subst (λ (x : ℤ). OfName T F n s x b) (sym j) (subst (λ (x : List ℕ). OfName T F n x y b) (sym i) v))

  of_line_one : (l : List ℕ) → One (OfLine T F n l)
  of_line_one l = unless_one (λ f. of_form_one l)

pub line_means_one : (hs : List House) (l : List ℕ) → One (LineMeans hs l)
line_means_one hs l = of_line_one (λ s t f. f t) (length hs + 1) l

-- ---- a file means one thing: the lines one after another

run_one : {hs : List House} {ls : List (List ℕ)} {a b : Meaning} → Run hs ls a → Run hs ls b → a ≡ b
run_one ends ends = refl
run_one {hs} {ls} {a} {b} (next {l = l} {ls = ks} {h = h} p r) (next {h = g} q w) =
    let e : holds h ≡ holds g = line_means_one hs l (holds h) (holds g) p q in
    let i : h ≡ g = cc in
    run_one r (subst (λ (x : House). Run (hs ++ (x ∷ [])) ks b) (sym i) w)
run_one {hs} (next {l = l} {h = h} p r) (stops {f = f} q) = let e : holds h ≡ C.refuses f = line_means_one hs l (holds h) (C.refuses f) p q in let z : ◌≡◌ {A = ℕ} 0 1 = cc in absurd (never z)
run_one {hs} (stops {l = l} {f = f} p) (next {h = h} q w) = let e : C.refuses f ≡ holds h = line_means_one hs l (C.refuses f) (holds h) p q in let z : ◌≡◌ {A = ℕ} 0 1 = cc in absurd (never z)
run_one {hs} (stops {l = l} {f = f} p) (stops {f = g} q) =
    let e : C.refuses f ≡ C.refuses g = line_means_one hs l (C.refuses f) (C.refuses g) p q in
    let i : f ≡ g = cc in
    ap refused_by i

hold_run : {ls : List (List ℕ)} {hs : List House} {rest : List (List ℕ)} {m : Meaning} → Hold ls hs → Run hs rest m → Run [] (ls ++ rest) m
hold_run Hold.none r = r
hold_run {rest = rest} {m} (Hold.more {ls} {l = l} w p) r = subst (λ (x : List (List ℕ)). Run [] x m) (sym (append_assoc ls (l ∷ []) rest)) (hold_run w (next p r))

means_run : {input : List ℕ} {m : Meaning} → Means input m → (ls : List (List ℕ)) × Lines input ls × Run [] ls m
means_run {m = m} (all_hold {ls} w h) = (ls, w, subst (λ (x : List (List ℕ)). Run [] x m) (append-nil ls) (hold_run h ends))
means_run (first_refused rest w h p) = (_, w, hold_run h (stops p))

pub means_one : {input : List ℕ} {a b : Meaning} → Means input a → Means input b → a ≡ b
means_one {b = b} p q =
    let (ls, v, r) = means_run p in
    let (ms, w, t) = means_run q in
    run_one r (subst (λ (x : List (List ℕ)). Run [] x b) (sym (lines_one v w)) t)

-- ---- one result, whatever the memory holds

house_calendar_one : (z : ℤ) → One (HouseCalendar z)
house_calendar_one z = unless_one (λ a. answers_one _)

pub names_in_one : (m : Names) (s : List ℕ) → One (NamesIn m s)
names_in_one m s a b (R.built_in (of_row x)) (R.built_in (of_row y)) = sym (named_row x (passes (_, y) (of_row y)))
names_in_one m s a b (R.built_in (of_row x)) (held n f c) = absurd (n (_, x))
names_in_one m s a b (R.built_in (of_row x)) (R.unknown n f) = absurd (n (_, x))
names_in_one m s a b (held n f c) (R.built_in (of_row x)) = absurd (n (_, x))
names_in_one m s a b (held n {z} f c) (held o {z = y} g d) =
    let e : Some z ≡ Some y = finds_one f g in
    let i : z ≡ y = cc in
    house_calendar_one z a b c (subst (λ (x : ℤ). HouseCalendar x b) (sym i) d)
names_in_one m s a b (held n {z} f c) (R.unknown o g) = let e : Some z ≡ None = finds_one f g in let z : ◌≡◌ {A = ℕ} 0 1 = cc in absurd (never z)
names_in_one m s a b (R.unknown n f) (R.built_in (of_row x)) = absurd (n (_, x))
names_in_one m s a b (R.unknown n f) (held o {z} g d) = let e : Some z ≡ None = finds_one g f in let z : ◌≡◌ {A = ℕ} 0 1 = cc in absurd (never z)
names_in_one m s a b (R.unknown n f) (R.unknown o g) = refl

taken_apart : (m : Names) (s : List ℕ) → TakenIn m s → FreeIn m s → ⊥
taken_apart m s (inl k) (n, f) = n k
taken_apart m s (inr (z, g)) (n, f) = let e : Some z ≡ None = finds_one g f in let z : ◌≡◌ {A = ℕ} 0 1 = cc in never z

result_one : {m : Names} {n : ℕ} {e d : LineMeaning} {m₁ m₂ : Names} {a b : Result ℕ Refusal} → e ≡ d → CarriesOut m n e m₁ a → CarriesOut m n d m₂ b → (m₁ ≡ m₂) × (a ≡ b)
result_one i (left_as {f = f}) (left_as {f = g}) = let j : f ≡ g = cc in (refl, ap Err j)
result_one i left_as (added d u) = let z : ◌≡◌ {A = ℕ} 0 1 = cc in absurd (never z)
result_one i (added d u) left_as = let z : ◌≡◌ {A = ℕ} 0 1 = cc in absurd (never z)
result_one {m} {n} i (added {s} {z} d u) (added {s = t} {z = y} c v) =
    let q : house s z ≡ house t y = cc in
    let j : s ≡ t = ap (λ (x : House). x.name) q in
    let k : z ≡ y = ap (λ (x : House). x.number) q in
    let o : d ≡ c = unbias_injective (2 ^ 31) d c (u ∙ k ∙ sym v) in
    (ap₂ (λ (x : List ℕ) (w : ℕ). memory (entered m.slots n x) (linked m.links n (bucket_of_value x) w)) j o, refl)

pub adds_one : {m : Names} {n : ℕ} {l : List ℕ} {m₁ m₂ : Names} {a b : Result ℕ Refusal} → Adds m n l m₁ a → Adds m n l m₂ b → (m₁ ≡ m₂) × (a ≡ b)
adds_one (made_up h) (made_up k) = (refl, refl)
adds_one (made_up h) (adds k o r) = absurd (omega arith)
adds_one (adds h o r) (made_up k) = absurd (omega arith)
adds_one {m} {n} {l} (adds {e = e} h o r) (adds {e = d} k p q) = result_one (of_line_one (taken_apart m) (n + 1) l e d o p) r q
