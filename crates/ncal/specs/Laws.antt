-- A name is found among rows as among those of its length alone, and what is found is the promise.
-- Assumes nothing.
use Rattle.std.specs.Prelude.{◌≡◌, refl, Bool, true, false, cond, ◌&&◌, ◌||◌, ◌⊎◌, ℕ, T, eqb, length, pos, Option, Some, None, Result, Ok, ok_or}
use Rattle.std.proofs.Common.{sym, ◌∙◌, ap, ap₂, subst, inl, inr, ⊎_elim, arith, ne_eqb}
use mathlib.Core.List.Memᴰ
use mathlib.Core.List.{List, [], ◌∷◌, Memᴰ}
use Rattle.std.proofs.lemmas.Bool.{eqb-false}
use Rattle.std.proofs.Math.Facts.{and_yes}
use Rattle.whole.specs.Tests.{true_or_false}
use Rattle.calendar.specs.Promise.{refusal}
use Rattle.calendar.specs.Rows.{refuses, passes}
use Rattle.calendar.specs.declared.Calendar.{Calendar}
use Rattle.ncal.specs.Every.{eq_list, eq_list_lem, list_eq}
use Rattle.ncal.specs.Table.{NameRow, row, table}
use Rattle.ncal.specs.Promise.{FoundAs, in_table, in_no_row, NamesCalendar, unknown_name_value, of_row}
use Rattle.ncal.specs.Search.{or_row, or_rows, among, of_length}
use Rattle.refusals.specs.declared.Refusal.{Refusal}

pub nought : ◌≡◌ {A = ℕ} 0 1 → ⊥
nought z = omega arith

-- ---- What a row says of a name
equal : (s t : List ℕ) → s ≡ t → eq_list s t ≡ true
equal s t e = subst (λ (u : List ℕ). eq_list s u ≡ true) e (list_eq s)

pub same_or_other : (s t : List ℕ) → (s ≡ t) ⊎ ¬ (s ≡ t)
same_or_other s t = ⊎_elim (λ e. inl (eq_list_lem s t (subst T (sym e) tt))) (λ e. inr (λ q. subst T e (subst T (sym (equal s t q)) tt))) (true_or_false (eq_list s t))

pub own_row : (s : List ℕ) (r : NameRow) → s ≡ r.name → or_row s None r ≡ Some r.calendar
unfolding or_row
own_row s r e = rw (equal s r.name e)

pub other_row : (s : List ℕ) (f : Option Calendar) (r : NameRow) → ¬ (s ≡ r.name) → or_row s f r ≡ f
unfolding or_row
other_row s (Some c) r n = refl
other_row s None r n = ⊎_elim (λ e. absurd (n (eq_list_lem s r.name (subst T (sym e) tt)))) (λ e. rw e) (true_or_false (eq_list s r.name))

found_stays : (s : List ℕ) (c : Calendar) (rows : List NameRow) → or_rows s (Some c) rows ≡ Some c
unfolding or_row
found_stays s c [] = refl
found_stays s c (r ∷ rows) = found_stays s c rows

-- ---- Rows of the name's length alone
same_length : (s : List ℕ) (f : Option Calendar) (rows : List NameRow) → or_rows s f (of_length (length s) rows) ≡ or_rows s f rows
same_length s f [] = refl
same_length s f (r ∷ rows) = ⊎_elim
    (λ e. picked true e ∙ same_length s (or_row s f r) rows)
    (λ e. picked false e ∙ same_length s f rows ∙ ap (λ (g : Option Calendar). or_rows s g rows) (sym (other_row s f r (λ q. eqb-false _ _ e (sym (ap length q))))))
    (true_or_false (eqb (length r.name) (length s)))
  where
    picked : (b : Bool) → eqb (length r.name) (length s) ≡ b → or_rows s f (of_length (length s) (r ∷ rows)) ≡ or_rows s f (cond b (r ∷ of_length (length s) rows) (of_length (length s) rows))
    picked b e = ap (λ (b : Bool). or_rows s f (cond b (r ∷ of_length (length s) rows) (of_length (length s) rows))) e

-- ---- A length that no row has

-- the last of the numbers comes first, as where a `match` has passed them
abbrev pub NoneOf : ℕ → List ℕ → Type 0
NoneOf l [] = Unit {0}
NoneOf l (n ∷ ns) = NoneOf l ns × (l ≡ n → ⊥)

abbrev is_one : ℕ → List ℕ → Bool
is_one l [] = false
is_one l (n ∷ ns) = eqb l n || is_one l ns

none_of : (l : ℕ) (ns : List ℕ) → NoneOf l ns → is_one l ns ≡ false
none_of l [] h = refl
none_of l (n ∷ ns) (h, d) = rw (ne_eqb l n d) (none_of l ns h)

-- each row's name has one of these lengths
abbrev pub lengths_in : List ℕ → List NameRow → Bool
lengths_in ns [] = true
lengths_in ns (r ∷ rows) = is_one (length r.name) ns && lengths_in ns rows

no_row : (l : ℕ) (ns : List ℕ) → is_one l ns ≡ false → (rows : List NameRow) → T (lengths_in ns rows) → of_length l rows ≡ []
no_row l ns e [] t = refl
no_row l ns e (r ∷ rows) t =
    let (a, b) = and_yes (is_one (length r.name) ns) _ t in
    rw (ne_eqb (length r.name) l (λ q. subst T e (subst (λ (m : ℕ). T (is_one m ns)) q a))) (no_row l ns e rows b)

pub in_no_group : (s ns : List ℕ) → T (lengths_in ns table) → NoneOf (length s) ns → among s table ≡ None
in_no_group s ns t h = sym (same_length s None table) ∙ ap (λ (rows : List NameRow). among s rows) (no_row (length s) ns (none_of (length s) ns h) table t)

-- ---- Other names than those of some rows
abbrev pub Others : List ℕ → List NameRow → Type 0
Others s [] = Unit {0}
Others s (r ∷ rows) = ¬ (s ≡ r.name) × Others s rows

others : (s : List ℕ) (rows : List NameRow) → Others s rows → among s rows ≡ None
others s [] h = refl
others s (r ∷ rows) (n, h) = ap (λ (f : Option Calendar). or_rows s f rows) (other_row s None r n) ∙ others s rows h

-- ---- What is found is promised
module _ (s : List ℕ) where
  found_first : (r : NameRow) (rows : List NameRow) → s ≡ r.name → among s (r ∷ rows) ≡ Some r.calendar
  found_first r rows e = ap (λ (f : Option Calendar). or_rows s f rows) (own_row s r e) ∙ found_stays s r.calendar rows

  found_later : (r : NameRow) (rows : List NameRow) → ¬ (s ≡ r.name) → among s (r ∷ rows) ≡ among s rows
  found_later r rows n = ap (λ (f : Option Calendar). or_rows s f rows) (other_row s None r n)

  found_in : (c : Calendar) (rows : List NameRow) → among s rows ≡ Some c → Memᴰ (row s c) rows
  found_in c [] e = let z : ◌≡◌ {A = ℕ} 0 1 = cc in absurd (nought z)
  found_in c (r ∷ rows) e = ⊎_elim
      (λ q. let i : c ≡ r.calendar = cc (found_first r rows q) in Memᴰ.head (ap₂ row q i))
      (λ n. Memᴰ.tail (found_in c rows (sym (found_later r rows n) ∙ e)))
      (same_or_other s r.name)

  not_in : {c : Calendar} (rows : List NameRow) → among s rows ≡ None → Memᴰ (row s c) rows → ⊥
  not_in [] e m = Memᴰ.not-nil m
  not_in (r ∷ rows) e m = ⊎_elim
      (λ q. let z : ◌≡◌ {A = ℕ} 0 1 = cc (found_first r rows q) in nought z)
      (λ n. ⊎_elim (λ w. n (ap (λ (t : NameRow). t.name) w)) (λ w. not_in rows (sym (found_later r rows n) ∙ e) w) (Memᴰ.cases_cons m))
      (same_or_other s r.name)

pub is_found : (s : List ℕ) (f : Option Calendar) → f ≡ among s table → FoundAs s f
is_found s (Some c) e = in_table (found_in s c table (sym e))
is_found s None e = in_no_row (λ k. not_in s table (sym e) k.1)

-- ---- The arms: a row's own name, another name of that length, another length
pub own_name : {s : List ℕ} {c : Calendar} (p : List ℕ) → s ≡ p → among p table ≡ Some c → FoundAs s (Some c)
own_name {s} {c} p e a = subst (λ (u : List ℕ). FoundAs u (Some c)) (sym e) (is_found p (Some c) (sym a))

pub other_name : {s : List ℕ} (n : ℕ) → length s ≡ n → Others s (of_length n table) → FoundAs s None
other_name {s} n l h = is_found s None (sym (others s (of_length n table) h) ∙ subst (λ (m : ℕ). among s (of_length m table) ≡ among s table) l (same_length s None table))

pub other_length : {s : List ℕ} (ns : List ℕ) → T (lengths_in ns table) → NoneOf (length s) ns → FoundAs s None
other_length {s} ns t h = is_found s None (sym (in_no_group s ns t h))

-- ---- What is found is named

-- the answer to what is found
abbrev chosen_of : Option Calendar → Result Calendar Refusal
chosen_of (Some c) = Ok c
chosen_of None = unknown_name_value

found_named : {s : List ℕ} {f : Option Calendar} → FoundAs s f → NamesCalendar s (chosen_of f)
found_named (in_table {c} m) = passes (c, m) (of_row m)
found_named (in_no_row n) = refuses n

pub is_named : {s : List ℕ} {c : Calendar} → FoundAs s (Some c) → NamesCalendar s (Ok c)
is_named = found_named

pub not_named : {s : List ℕ} → FoundAs s None → NamesCalendar s unknown_name_value
not_named = found_named

pub named_as : {s : List ℕ} {o : Option Calendar} → FoundAs s o → NamesCalendar s (ok_or o (refusal 19 (pos 0)))
named_as (in_table i) = is_named (in_table i)
named_as (in_no_row n) = not_named (in_no_row n)
