-- A line has one name and one text, and one answer where a name has one.
-- Assumes nothing.
use Rattle.std.specs.Prelude.{ℕ, ◌≡◌, refl, List, length, Result}
use Rattle.std.proofs.Common.{sym, ap, ap₂, subst, arith, length-take, length-drop}
use Rattle.bytesearch.specs.One.{never, parted_one, never_parted}
use Rattle.calendar.specs.declared.Calendar.{Calendar}
use Rattle.calendar.specs.RowLaws.{One, if_one}
use Rattle.dateparse.specs.Promise.{ParseDate}
use Rattle.dateparse.specs.One.{parse_date_one}
use Rattle.entry.specs.declared.Parts.{Parts}
use Rattle.entry.specs.Entry.{Entry, tabbed, bare}
use Rattle.entry.specs.Promise.{IsParted, Naming, ByEntry, no_name, by_text, LineAnswer}
use Rattle.refusals.specs.declared.Refusal.{Refusal}

pub entry_same : {l m name text name' text' : List ℕ} → l ≡ m → Entry l name text → Entry m name' text' → (name ≡ name') × (text ≡ text')
entry_same e (tabbed w) (tabbed v) = parted_one w v e
entry_same e (tabbed {name} {text} w) (bare v) = absurd (never_parted name text v e)
entry_same e (bare w) (tabbed {name} {text} v) = absurd (never_parted name text w (sym e))
entry_same e (bare w) (bare v) = (e, refl)

abbrev parts : ℕ → ℕ → Parts
parts n t = record { name_end = n; text_from = t }

pub parts_one : {l : List ℕ} {p q : Parts} → IsParted l p → IsParted l q → p ≡ q
parts_one {l} {p} {q} a b =
    let (e, f) = entry_same refl a.entry b.entry in
    let n : p.name_end ≡ q.name_end = omega (arith, ap length e, length-take p.name_end l, length-take q.name_end l, a.name_inside, b.name_inside) in
    let t : p.text_from ≡ q.text_from = omega (arith, ap length f, length-drop p.text_from l, length-drop q.text_from l, a.text_inside, b.text_inside) in
    ap₂ parts n t

module _ {N : Naming} (names_one : (s : List ℕ) → One (N s)) where
  named_same : {name name' : List ℕ} {a b : Result Calendar Refusal} → name ≡ name' → N name a → N name' b → a ≡ b
  named_same {name} {a = a} {b} e p q = names_one name a b p (subst (λ (s : List ℕ). N s b) (sym e) q)

  by_entry_one : (l : List ℕ) → One (ByEntry N l)
  by_entry_one l a b (no_name p q) (no_name p' q') = let e = named_same (entry_same refl p p').0 q q' in cc
  by_entry_one l a b (no_name p q) (by_text p' q' r') = let e = named_same (entry_same refl p p').0 q q' in let z : ◌≡◌ {A = ℕ} 0 1 = cc in absurd (never z)
  by_entry_one l a b (by_text p q r) (no_name p' q') = let e = named_same (entry_same refl p p').0 q q' in let z : ◌≡◌ {A = ℕ} 0 1 = cc in absurd (never z)
  by_entry_one l a b (by_text {text} {c} p q r) (by_text {text = text'} {c = c'} p' q' r') =
      let e = named_same (entry_same refl p p').0 q q' in
      let f : c ≡ c' = cc in
      parse_date_one c text a b r (subst (λ (x : Calendar). ParseDate x text b) (sym f) (subst (λ (t : List ℕ). ParseDate c' t b) (sym (entry_same refl p p').1) r'))

  pub line_answer_one : (l : List ℕ) → One (LineAnswer N l)
  line_answer_one l = if_one (λ n. by_entry_one l)
