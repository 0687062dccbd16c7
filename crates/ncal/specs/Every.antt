-- A rule of a table, shown at all of its entries by one test that is computed; entries by number, by membership and by name; equality of lists by a
-- test.
-- Assumes nothing.
use Rattle.std.specs.Prelude.{◌≡◌, refl, Bool, true, false, cond, ◌&&◌, ℕ, zero, suc, ◌+◌, ◌<◌, T, eqb, length, get_or}
use Rattle.std.proofs.Common.{sym, ◌∙◌, ap, ap₂, subst, ⊎_elim, add-zero, zero-add, add-suc, suc-add, le_of_suc-le-suc, not-suc-le-zero, arith, eq-eqb, eqb→eq}
use mathlib.Core.List.Memᴰ
use mathlib.Core.List.{List, [], ◌∷◌, Memᴰ}
use Rattle.std.proofs.Math.Facts.{and_yes}

-- the test f passes at each entry and its number, counted from i
abbrev pub every : {A : Type 0} → (ℕ → A → Bool) → ℕ → List A → Bool
every f i [] = true
every f i (x ∷ xs) = f i x && every f (suc i) xs

from : {A : Type 0} (f : ℕ → A → Bool) (d : A) (l : List A) (i : ℕ) → T (every f i l) → (k : ℕ) → k < length l → T (f (i + k) (get_or l k d))
from f d [] i t k h = absurd (not-suc-le-zero h)
from f d (x ∷ xs) i t zero h = subst (λ (m : ℕ). T (f m x)) (sym (add-zero i)) (and_yes (f i x) (every f (suc i) xs) t).0
from f d (x ∷ xs) i t (suc k) h =
    subst (λ (m : ℕ). T (f m (get_or xs k d))) (suc-add i k ∙ sym (add-suc i k))
    (from f d xs (suc i) (and_yes (f i x) (every f (suc i) xs) t).1 k (le_of_suc-le-suc h))

-- then it passes at the entry with the number k
pub every_at : {A : Type 0} (f : ℕ → A → Bool) (d : A) (l : List A) → T (every f 0 l) → (k : ℕ) → k < length l → T (f k (get_or l k d))
every_at f d l t k h = subst (λ (m : ℕ). T (f m (get_or l k d))) (zero-add k) (from f d l 0 t k h)

-- an entry has a number
pub number_of : {A : Type 0} (d : A) (l : List A) {x : A} → Memᴰ x l → (k : ℕ) × (k < length l) × (x ≡ get_or l k d)
number_of d [] m = absurd (Memᴰ.not-nil m)
number_of d (y ∷ ys) m = ⊎_elim (λ e. (0, omega arith, e)) (λ n. let (k, h, e) = number_of d ys n in (suc k, omega arith, e)) (Memᴰ.cases_cons m)

-- ---- equality of lists
abbrev pub eq_list : List ℕ → List ℕ → Bool
eq_list [] [] = true
eq_list [] (b ∷ t) = false
eq_list (a ∷ s) [] = false
eq_list (a ∷ s) (b ∷ t) = eqb a b && eq_list s t

pub eq_list_lem : (s t : List ℕ) → T (eq_list s t) → s ≡ t
eq_list_lem [] [] h = refl
eq_list_lem [] (b ∷ t) h = absurd h
eq_list_lem (a ∷ s) [] h = absurd h
eq_list_lem (a ∷ s) (b ∷ t) h = let (e, r) = and_yes (eqb a b) (eq_list s t) h in ap₂ (λ (x : ℕ) (l : List ℕ). x ∷ l) (eqb→eq a b e) (eq_list_lem s t r)

pub list_eq : (s : List ℕ) → eq_list s s ≡ true
list_eq [] = refl
list_eq (a ∷ s) = rw (eq-eqb a a refl) (list_eq s)

-- ---- Entries with a name

-- the number of the first entry whose name is s, counted from i
abbrev pub first_with : {A : Type 0} → (A → List ℕ) → List ℕ → ℕ → List A → ℕ
first_with name s i [] = i
first_with name s i (x ∷ xs) = cond (eq_list s (name x)) i (first_with name s (suc i) xs)

abbrev pub is_first : {A : Type 0} → (A → List ℕ) → List A → ℕ → A → Bool
is_first name l i x = eqb (first_with name (name x) 0 l) i

-- where each entry is the first of its name, no two have one name
pub distinct : {A : Type 0} (name : A → List ℕ) (d : A) (l : List A) → T (every (is_first name l) 0 l) → (j k : ℕ) → j < length l → k < length l → name (get_or l j d) ≡ name (get_or l k d) → j ≡ k
distinct name d l t j k g h e = sym (first j g) ∙ ap (λ (s : List ℕ). first_with name s 0 l) e ∙ first k h
  where
    first : (k : ℕ) → k < length l → first_with name (name (get_or l k d)) 0 l ≡ k
    first k h = eqb→eq _ _ (every_at (is_first name l) d l t k h)
