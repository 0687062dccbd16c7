-- A pattern filled has one result, so has the paragraph of a reason, and so has that of a line.
use Rattle.std.specs.Prelude.{◌≡◌, refl, List, ◌∷◌, ◌++◌, ℕ, ℤ, Result, Ok, Err}
use Rattle.std.proofs.Common.{sym, ap, ap₂, subst, arith}
use Rattle.bytesearch.specs.One.{never}
use Rattle.refusals.specs.declared.Refusal.{Refusal}
use Rattle.calendar.specs.RowLaws.{One}
use Rattle.calendar.specs.declared.Calendar.{Calendar}
use Rattle.writer.specs.Promise.{Writes}
use Rattle.writer.specs.One.{whole_one, writes_one}
use Rattle.entry.specs.Promise.{Naming}
use Rattle.entry.specs.One.{entry_same}
use Rattle.reasons.specs.declared.Reason.{Reason}
use Rattle.reasons.specs.Promise.{Explains}
use Rattle.reasons.specs.One.{explains_one}
use Rattle.explaining.specs.Wording.{follows, Says, says}
use Rattle.explaining.specs.Paragraph.{Unnamed, ByEntry, Explained, Paragraph}
use Rattle.explaining.specs.Patterns.{shown, Filled, end, number, no_number, the_name, the_text, itself}

pub filled_one : {name text p t u : List ℕ} {ns : List ℤ} → Filled name text p ns t → Filled name text p ns u → t ≡ u
filled_one end end = refl
filled_one (number w f) (number v g) = ap₂ (λ (x y : List ℕ). x ++ y) (whole_one w v) (filled_one f g)
filled_one (number w f) (itself a b c g) = absurd (a refl)
filled_one (no_number f) (no_number g) = filled_one f g
filled_one (no_number f) (itself a b c g) = absurd (a refl)
filled_one {name} (the_name f) (the_name g) = ap (λ (x : List ℕ). shown name ++ x) (filled_one f g)
filled_one (the_name f) (itself a b c g) = absurd (b refl)
filled_one {text = text} (the_text f) (the_text g) = ap (λ (x : List ℕ). shown text ++ x) (filled_one f g)
filled_one (the_text f) (itself a b c g) = absurd (c refl)
filled_one (itself a b c f) (number w g) = absurd (a refl)
filled_one (itself a b c f) (no_number g) = absurd (a refl)
filled_one (itself a b c f) (the_name g) = absurd (b refl)
filled_one (itself a b c f) (the_text g) = absurd (c refl)
filled_one (itself {b = x} a b c f) (itself a' b' c' g) = ap (λ (y : List ℕ). x ∷ y) (filled_one f g)

pub says_one : {name text t u : List ℕ} {reason : Reason} → Says name text reason t → Says name text reason u → t ≡ u
says_one {text = text} {reason = reason} (says f) (says g) = ap (λ (x : List ℕ). x ++ follows text reason) (filled_one f g)

-- ---- a line has one paragraph, where a name has one answer
module _ {N : Naming} (names_one : (s : List ℕ) → One (N s)) where
  unnamed_one : {name text t u : List ℕ} {number : ℕ} → Unnamed name text number t → Unnamed name text number u → t ≡ u
  unnamed_one (Unnamed.unknown e f) (Unnamed.unknown h g) = filled_one f g
  unnamed_one (Unnamed.unknown e f) (Unnamed.made_up h g) = absurd (h e)
  unnamed_one (Unnamed.made_up e f) (Unnamed.unknown h g) = absurd (e h)
  unnamed_one (Unnamed.made_up e f) (Unnamed.made_up h g) = says_one f g

  named_same : {name name' : List ℕ} {a b : Result Calendar Refusal} → name ≡ name' → N name a → N name' b → a ≡ b
  named_same {name} {a = a} {b} e p q = names_one name a b p (subst (λ (s : List ℕ). N s b) (sym e) q)

  by_entry_one : {l t u : List ℕ} → ByEntry N l t → ByEntry N l u → t ≡ u
  by_entry_one (ByEntry.no_name {name} {text} {f = f} p n x) (ByEntry.no_name {name = name'} {text = text'} {t = u} {f = g} q m y) =
      let (e, h) = entry_same refl p q in
      let i : Err f ≡ Err g = named_same e n m in
      let j : f ≡ g = cc in
      unnamed_one x (subst (λ (s : List ℕ). Unnamed s text f.number u) (sym e) (subst (λ (s : List ℕ). Unnamed name' s f.number u) (sym h) (subst (λ (k : Refusal). Unnamed name' text' k.number u) (sym j) y)))
  by_entry_one (ByEntry.no_name {f = f} p n x) (ByEntry.by_text {c = d} q m v y) = let i : Err f ≡ Ok d = named_same (entry_same refl p q).0 n m in let z : ◌≡◌ {A = ℕ} 0 1 = cc in absurd (never z)
  by_entry_one (ByEntry.by_text {c = c} p n e x) (ByEntry.no_name {f = g} q m y) = let i : Ok c ≡ Err g = named_same (entry_same refl p q).0 n m in let z : ◌≡◌ {A = ℕ} 0 1 = cc in absurd (never z)
  by_entry_one (ByEntry.by_text {name} {text} {c = c} {r} p n e x) (ByEntry.by_text {name = name'} {text = text'} {t = u} {c = d} {r = s} q m v y) =
      let (k, h) = entry_same refl p q in
      let i : Ok c ≡ Ok d = named_same k n m in
      let j : c ≡ d = cc in
      let w : r ≡ s = explains_one c text r s e (subst (λ (o : Calendar). Explains o text s) (sym j) (subst (λ (o : List ℕ). Explains d o s) (sym h) v)) in
      says_one x (subst (λ (o : List ℕ). Says o text r u) (sym k) (subst (λ (o : List ℕ). Says name' o r u) (sym h) (subst (λ (o : Reason). Says name' text' o u) (sym w) y)))

  explained_one : {l t u : List ℕ} → Explained N l t → Explained N l u → t ≡ u
  explained_one (Explained.too_long h) (Explained.too_long k) = refl
  explained_one (Explained.too_long h) (Explained.explained k y) = absurd (omega arith)
  explained_one (Explained.explained h x) (Explained.too_long k) = absurd (omega arith)
  explained_one (Explained.explained h x) (Explained.explained k y) = by_entry_one x y

  pub paragraph_one : (l t u : List ℕ) → Paragraph N l t → Paragraph N l u → t ≡ u
  paragraph_one l t u p q = explained_one p.is q.is

  pub explain_line_one : {l b b₁ b₂ : List ℕ} {at : ℕ} {r₁ r₂ : Result ℕ Refusal} → Writes (Paragraph N l) b at b₁ r₁ → Writes (Paragraph N l) b at b₂ r₂ → (b₁ ≡ b₂) × (r₁ ≡ r₂)
  explain_line_one {l} = writes_one (paragraph_one l)
