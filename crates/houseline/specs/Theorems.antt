-- Of every line it is decided whether it has the form.
use Rattle.std.specs.Prelude.{ℕ, ◌≤◌, ◌<◌, ◌≡◌, refl, Bool, true, false, List, [], ◌∷◌, ◌++◌, ◌⊎◌, length, ℤ, eqb}
use Rattle.std.proofs.Common.{sym, ap, subst, inl, inr, ⊎_elim, arith, eqb-true}
use Rattle.std.proofs.lemmas.Bool.{eqb-false}
use Rattle.whole.specs.Tests.{lt_or_ge}
use Rattle.bytesearch.specs.Promise.{Without}
use Rattle.bytesearch.specs.One.{never}
use Rattle.digits.specs.Numerals.{dash, Digit, Digits}
use Rattle.nametable.specs.Limits.{most_name}
use Rattle.houseline.specs.Form.{Letter, capital, digit, underscore, Letters, Name, Form}
use Rattle.houseline.specs.Laws.{DigitsFrom, dashed, bare, Numerals, IsWritten, is_written, not_written, below_letters, in_the_gap, letter_last, not_low, not_high, form_long, form_no_tab, form_no_name, form_no_number, form_of}
use Rattle.whole.specs.Text.{tab}
use Rattle.textlines.specs.Lines.{longest_read}

abbrev pub Decided : Type 0 → Type 0
Decided P = P ⊎ ¬ P

same_or_not : (a b : ℕ) → Decided (a ≡ b)
same_or_not a b = go (eqb a b) refl
  where
    go : (t : Bool) → eqb a b ≡ t → Decided (a ≡ b)
    go true e = inl (eqb-true a b e)
    go false e = inr (eqb-false a b e)

letter_or_not : (b : ℕ) → Decided (Letter b)
letter_or_not b = ⊎_elim
    (λ h. inr (λ l. below_letters l h))
    (λ h. ⊎_elim
    (λ i. ⊎_elim
    (λ j. inr (λ l. in_the_gap l i j))
    (λ j. ⊎_elim
    (λ k. ⊎_elim (λ e. inl (subst Letter (sym e) underscore)) (λ n. inr (λ l. n (letter_last l k))) (same_or_not b 95))
    (λ k. inl (capital j k))
    (lt_or_ge 90 b))
    (lt_or_ge b 65))
    (λ i. inl (digit (record { low = h; high = i })))
    (lt_or_ge 57 b))
    (lt_or_ge b 48)

letters_or_not : (s : List ℕ) → Decided (Letters s)
letters_or_not [] = inl Letters.none
letters_or_not (b ∷ s) = ⊎_elim
    (λ l. ⊎_elim (λ ls. inl (Letters.more l ls)) (λ n. inr (λ w. n (rest w))) (letters_or_not s))
    (λ n. inr (λ w. n (first w)))
    (letter_or_not b)
  where
    first : {b : ℕ} {s : List ℕ} → Letters (b ∷ s) → Letter b
    first (Letters.more l ls) = l

    rest : {b : ℕ} {s : List ℕ} → Letters (b ∷ s) → Letters s
    rest (Letters.more l ls) = ls

name_or_not : (s : List ℕ) → Decided (Name s)
name_or_not s = ⊎_elim
    (λ h. ⊎_elim
    (λ k. inr (λ w. over k w.short))
    (λ k. ⊎_elim (λ l. inl (record { some = h; short = k; letters = l })) (λ n. inr (λ w. n w.letters)) (letters_or_not s))
    (lt_or_ge most_name (length s)))
    (λ h. inr (λ w. under h w.some))
    (lt_or_ge 0 (length s))
  where
    over : {n : ℕ} → most_name < n → n ≤ most_name → ⊥
    over h k = omega arith

    under : {n : ℕ} → n ≤ 0 → 0 < n → ⊥
    under h k = omega arith

digits_or_not : (s : List ℕ) → Decided (Digits s)
digits_or_not [] = inl Digits.none
digits_or_not (b ∷ s) = ⊎_elim
    (λ h. inr (λ w. not_low (first w) h))
    (λ h. ⊎_elim
    (λ k. inr (λ w. not_high (first w) k))
    (λ k. ⊎_elim (λ d. inl (Digits.more (record { low = h; high = k }) d)) (λ n. inr (λ w. n (rest w))) (digits_or_not s))
    (lt_or_ge 57 b))
    (lt_or_ge b 48)
  where
    first : {b : ℕ} {s : List ℕ} → Digits (b ∷ s) → Digit b
    first (Digits.more d ds) = d

    rest : {b : ℕ} {s : List ℕ} → Digits (b ∷ s) → Digits s
    rest (Digits.more d ds) = ds

numerals_or_not : (s : List ℕ) → Decided (Numerals s)
numerals_or_not s = ⊎_elim
    (λ h. ⊎_elim (λ d. inl (record { some = h; digits = d })) (λ n. inr (λ w. n w.digits)) (digits_or_not s))
    (λ h. inr (λ w. under h w.some))
    (lt_or_ge 0 (length s))
  where
    under : {n : ℕ} → n ≤ 0 → 0 < n → ⊥
    under h k = omega arith

digits_from : (u : List ℕ) → (p : List ℕ) × DigitsFrom u p
digits_from [] = ([], bare {u = []} (λ p e. let z : ◌≡◌ {A = ℕ} 0 1 = cc in never z))
digits_from (b ∷ u) = ⊎_elim
    (λ e. (u, subst (λ (x : ℕ). DigitsFrom (x ∷ u) u) (sym e) dashed))
    (λ n. (b ∷ u, bare {u = b ∷ u} (λ p e. n cc)))
    (same_or_not b dash)

written_or_not : (u : List ℕ) → Decided (IsWritten u)
written_or_not u = let (p, d) = digits_from u in ⊎_elim (λ n. inl (is_written d n)) (λ n. inr (not_written d n)) (numerals_or_not p)

-- the first tab of a line
split : (l : List ℕ) → ((q : List ℕ) × (u : List ℕ) × (l ≡ q ++ (tab ∷ u)) × Without tab q) ⊎ Without tab l
split [] = inr Without.none
split (b ∷ l) = ⊎_elim
    (λ e. inl ([], l, ap (λ (x : ℕ). x ∷ l) e, Without.none))
    (λ n. ⊎_elim (λ (q, u, e, w). inl (b ∷ q, u, ap (λ (x : List ℕ). b ∷ x) e, Without.more n w)) (λ w. inr (Without.more n w)) (split l))
    (same_or_not b tab)

pub form_or_not : (l : List ℕ) → ((s : List ℕ) × (z : ℤ) × Form l s z) ⊎ ((s : List ℕ) (z : ℤ) → ¬ Form l s z)
form_or_not l = ⊎_elim
    (λ h. inr (form_long h))
    (λ h. ⊎_elim
    (λ (q, u, e, w). ⊎_elim
    (λ n. ⊎_elim (λ (z, v). inl (q, z, form_of q u e w n v h)) (λ o. inr (form_no_number q u e w o)) (written_or_not u))
    (λ o. inr (form_no_name q u e w o))
    (name_or_not q))
    (λ w. inr (form_no_tab w))
    (split l))
    (lt_or_ge longest_read (length l))
