-- The parts of a line, and its answer where names come to the same in another way.
-- Assumes nothing.
use Rattle.std.specs.Prelude.{ℕ, min, ◌+◌, ◌-◌, ◌≤◌, ◌<◌, ◌≡◌, List, [], ◌∷◌, ◌++◌, length, take, drop, pos, Result, Ok, Err}
use Rattle.std.proofs.Common.{sym, ◌∙◌, ap, subst, append_assoc, ⊎_elim, arith, length-append, length-drop, take_all, take_at, drop_at}
use Rattle.std.proofs.Math.Seq.{drop-length, take-length}
use Rattle.whole.specs.Tests.{lt_or_ge}
use Rattle.bytesearch.specs.Promise.{Without, UpTo}
use Rattle.whole.specs.Text.{tab}
use Rattle.refusals.specs.declared.Refusal.{Refusal}
use Rattle.calendar.specs.Promise.{refusal}
use Rattle.calendar.specs.Rows.{refuses, passes}
use Rattle.entry.specs.Entry.{longest_entry, Entry, tabbed, bare}
use Rattle.entry.specs.Promise.{Naming, ByEntry, no_name, by_text, LineAnswer}
use Rattle.calendar.specs.declared.Calendar.{Calendar}
use Rattle.calendar.specs.declared.Date.{Date}

entry_tabbed : {l : List ℕ} {k : ℕ} → UpTo tab l 0 k → k < length l → Entry l (take k l) (drop (k + 1) l)
entry_tabbed {l} {k} (UpTo.stands {q} u e w p) h =
    subst (λ (x : List ℕ). Entry x (take k x) (drop (k + 1) x)) (sym e)
    (subst (λ (x : List ℕ). Entry (q ++ (tab ∷ u)) x (drop (k + 1) (q ++ (tab ∷ u)))) (sym (take_at q (tab ∷ u) k (omega arith)))
    (subst (λ (x : List ℕ). Entry (q ++ (tab ∷ u)) q x) (sym rest) (tabbed w)))
  where
    rest : drop (k + 1) (q ++ (tab ∷ u)) ≡ u
    rest = ap (drop (k + 1)) (sym (append_assoc q (tab ∷ []) u)) ∙ drop_at (q ++ (tab ∷ [])) u (k + 1) (length-append q (tab ∷ []) ∙ omega arith)
entry_tabbed {l} {k} (UpTo.ends {q} e w p) h = absurd (omega (arith, ap length e))

entry_bare : {l : List ℕ} {k : ℕ} → UpTo tab l 0 k → length l ≤ k → Entry l (take k l) (drop (length l) l)
entry_bare {l} {k} (UpTo.stands {q} u e w p) h = absurd (omega (arith, ap length e, length-append q (tab ∷ u)))
entry_bare {l} {k} (UpTo.ends {q} e w p) h =
    subst (λ (i : ℕ). Entry l (take i l) (drop (length l) l)) (omega (arith, ap length e))
    (subst (λ (x : List ℕ). Entry l x (drop (length l) l)) (sym (take-length l))
    (subst (Entry l l) (sym (drop-length l)) (bare (subst (Without tab) (sym e) w))))

-- where the first tab is at k, or the line ends there, the text begins after the tab, or at the line's end
pub entry_from : {l : List ℕ} {k : ℕ} → UpTo tab l 0 k → Entry l (take k l) (drop (min (k + 1) (length l)) l)
entry_from {l} {k} b =
    ⊎_elim (λ h. subst (λ (i : ℕ). Entry l (take k l) (drop i l)) (omega (arith, h)) (entry_tabbed b h)) (λ h. subst (λ (i : ℕ). Entry l (take k l) (drop i l)) (omega (arith, h)) (entry_bare b h))
    (lt_or_ge k (length l))

-- a line that is too long, whatever it names
pub too_long : {N : Naming} {l : List ℕ} {why : Refusal} → longest_entry < length l → why ≡ refusal 20 (pos 0) → LineAnswer N l (Err why)
too_long {N} {l} h e = subst (λ (f : Refusal). LineAnswer N l (Err f)) (sym e) (refuses h)

-- a part of a slice that goes on to its end
pub to_the_end : (k : ℕ) (s : List ℕ) → take (length s - k) (drop k s) ≡ drop k s
to_the_end k s = take_all (length s - k) (drop k s) (omega (arith, length-drop k s))

-- where whatever N says of a name M says too, an answer by N is one by M
module _ {N M : Naming} (also : (s : List ℕ) (a : Result Calendar Refusal) → N s a → M s a) where
  by_entry_also : {l : List ℕ} {a : Result Date Refusal} → ByEntry N l a → ByEntry M l a
  by_entry_also (no_name {name} {why = why} p q) = no_name p (also name (Err why) q)
  by_entry_also (by_text {name} {c = c} p q r) = by_text p (also name (Ok c) q) r

  pub answer_also : {l : List ℕ} {a : Result Date Refusal} → LineAnswer N l a → LineAnswer M l a
  answer_also (refuses h) = refuses h
  answer_also (passes h b) = passes h (by_entry_also b)
