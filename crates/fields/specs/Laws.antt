-- Fields are equal whose numbers are.
-- Assumes nothing.
use Rattle.std.specs.Prelude.{◌≡◌, Bool, true, false, ℕ, ◌&&◌, ◌==◌, ℤ}
use Rattle.std.specs.Bool.{Decides}
use Rattle.std.specs.Ordering.{int_eq}
use Rattle.std.proofs.Common.{sym, ◌∙◌, ap, arith}
use Rattle.std.proofs.lemmas.Bool.Decides.{Decides-and, Decides-int_eq, Decides-eqb}
use Rattle.whole.specs.Whether.{Whether}
use Rattle.fields.specs.declared.Fields.{Fields}

abbrev fields : ℤ → ℕ → ℕ → ℕ → ℕ → ℕ → Fields
fields y o m d p s = record { year = y; ordinal = o; month = m; day = d; day_ordinal = p; style = s }

pub all_same : (a b : Fields) → a.year ≡ b.year → a.ordinal ≡ b.ordinal → a.month ≡ b.month → a.day ≡ b.day → a.day_ordinal ≡ b.day_ordinal → a.style ≡ b.style → a ≡ b
all_same a b y o m d p s =
    let w : fields a.year a.ordinal a.month a.day a.day_ordinal a.style ≡ fields b.year b.ordinal b.month b.day b.day_ordinal b.style = cc in
    w

-- what `==` compares, field by field
abbrev pub each_same : Fields → Fields → Bool
each_same a b = int_eq a.year b.year && (a.ordinal == b.ordinal && (a.month == b.month && (a.day == b.day && (a.day_ordinal == b.day_ordinal && a.style == b.style))))

pub told_by_each : (a b : Fields) {r : Bool} → r ≡ each_same a b → Whether (a ≡ b) r
told_by_each a b {r} e = by r e
  where
    decided : Decides (each_same a b) ((a.year ≡ b.year) × ((a.ordinal ≡ b.ordinal) × ((a.month ≡ b.month) × ((a.day ≡ b.day) × ((a.day_ordinal ≡ b.day_ordinal) × (a.style ≡ b.style))))))
    decided =
        Decides-and _ _ (Decides-int_eq a.year b.year)
        (Decides-and _ _ (Decides-eqb a.ordinal b.ordinal)
        (Decides-and _ _ (Decides-eqb a.month b.month)
        (Decides-and _ _ (Decides-eqb a.day b.day)
        (Decides-and _ _ (Decides-eqb a.day_ordinal b.day_ordinal) (Decides-eqb a.style b.style)))))

    by : (r : Bool) → r ≡ each_same a b → Whether (a ≡ b) r
    by true q = let (y, (o, (m, (d, (p, s))))) = decided.0 (sym q) in all_same a b y o m d p s
    by false q = λ g. let n : false ≡ true = q ∙ decided.1 (ap (λ (x : Fields). x.year) g, (ap (λ (x : Fields). x.ordinal) g, (ap (λ (x : Fields). x.month) g, (ap (λ (x : Fields). x.day) g, (ap (λ (x : Fields). x.day_ordinal) g, ap (λ (x : Fields). x.style) g))))) in let z : ◌≡◌ {A = ℕ} 0 1 = cc in omega arith
