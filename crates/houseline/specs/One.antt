-- A line has the form in one way, and the promise allows one result.
use Rattle.std.specs.Prelude.{ℕ, ◌≡◌, refl, List, length, ℤ, pos, neg_ℤ, Result, Err}
use Rattle.std.proofs.Common.{sym, ◌∙◌, ap, ap₂, subst}
use Rattle.digits.specs.Numerals.{Numeral, value_of}
use Rattle.refusals.specs.declared.Refusal.{Refusal}
use Rattle.houseline.specs.Form.{Written, Form}
use Rattle.houseline.specs.Laws.{letters_without, digits_no_dash, leaves_one, form_parts, fits_leaves, form_split}
use Rattle.houseline.specs.declared.House.{House}
use Rattle.houseline.specs.declared.NoHouse.{NoHouse}
use Rattle.houseline.specs.Promise.{Fits32, LeavesAfter, house_read, Reads, reads, outside, malformed}

-- ---- one form

numeral_one : {p q : List ℕ} {m n : ℕ} → p ≡ q → Numeral p m → Numeral q n → m ≡ n
numeral_one e a b = sym a.writes ∙ ap value_of e ∙ b.writes

written_same : {u v : List ℕ} {y z : ℤ} → u ≡ v → Written u y → Written v z → y ≡ z
written_same e (Written.plain a) (Written.plain b) = ap pos (numeral_one e a b)
written_same e (Written.plain a) (Written.with_dash {p = q} b) = absurd (digits_no_dash a.digits q e)
written_same e (Written.with_dash {p} a) (Written.plain b) = absurd (digits_no_dash b.digits p (sym e))
written_same e (Written.with_dash {p} a) (Written.with_dash {p = q} b) = let f : p ≡ q = cc in ap (λ (n : ℕ). neg_ℤ (pos n)) (numeral_one f a b)

pub form_one : {l name name' : List ℕ} {z z' : ℤ} → Form l name z → Form l name' z' → (name ≡ name') × (z ≡ z')
form_one f g =
    let (text, e, n, w, h) = form_parts f in
    let (a, m, v, k) = form_split e (letters_without n.letters) g in
    (sym a, written_same refl w v)

pub leaves_same : (l : List ℕ) {name name' : List ℕ} {f g : Refusal} → name ≡ name' → LeavesAfter l (length name) f → LeavesAfter l (length name') g → f ≡ g
leaves_same l {g = g} e a b = leaves_one a (subst (λ (x : List ℕ). LeavesAfter l (length x) g) (sym e) b)

pub reads_one : {l : List ℕ} {a b : Result House NoHouse} → Reads l a → Reads l b → a ≡ b
reads_one (reads f h) (reads g k) = let (a, b) = form_one f g in ap₂ (λ (x : List ℕ) (y : ℤ). house_read (length x) y) a b
reads_one (reads f h) (outside g k) = absurd (fits_leaves g (subst Fits32 (form_one f g).1 h) k)
reads_one (reads f h) (malformed n) = absurd (n _ _ f)
reads_one (outside f h) (reads g k) = absurd (fits_leaves f (subst Fits32 (form_one g f).1 k) h)
reads_one (outside f h) (outside g k) = ap (λ (f : Refusal). Err (NoHouse.Outside f)) (leaves_same _ (form_one f g).0 h k)
reads_one (outside f h) (malformed n) = absurd (n _ _ f)
reads_one (malformed n) (reads g k) = absurd (n _ _ g)
reads_one (malformed n) (outside g k) = absurd (n _ _ g)
reads_one (malformed n) (malformed o) = refl
