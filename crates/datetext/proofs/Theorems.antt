-- THE THEOREMS ON THE TEXT OF A DATE.
-- A text belongs to the grammar or has a fault, never both; it writes one date at most, in one of the two ways; and it has one fault at most.
-- Assumes nothing.
use Rattle.std.specs.Prelude.{ℕ, ◌≡◌, List, ◌⊎◌, ℤ, Result}
use Rattle.std.proofs.Common.{inl, inr, arith}
use Rattle.refusals.specs.declared.Refusal.{Refusal}
use Rattle.datetext.specs.Grammar.{OrdinalText, YmdText, Fault, Belongs}
use Rattle.days.specs.DayByDay.{Month}
use Rattle.datetext.specs.Promise.{ReadDate}
use Rattle.datetext.proofs.Laws.{sound}
use Rattle.datetext.specs.declared.Text.{Text}
use Rattle.datetext.proofs.One.{read_one}

-- a text belongs to the grammar or has a fault
pub belongs_or_faulty : (s : List ℕ) → Belongs s ⊎ ((f : Refusal) × Fault s f)
belongs_or_faulty s = by (sound s)
  where
    by : {r : Result Text Refusal} → ReadDate s r → Belongs s ⊎ ((f : Refusal) × Fault s f)
    by (ReadDate.ordinal_text h) = inl (Belongs.by_ordinal h)
    by (ReadDate.ymd_text h) = inl (Belongs.by_day h)
    by (ReadDate.faulty {f} h) = inr (f, h)

-- never both
pub never_both : {s : List ℕ} {f : Refusal} → Belongs s → Fault s f → ⊥
never_both (Belongs.by_ordinal h) g = let e = read_one (ReadDate.ordinal_text h) (ReadDate.faulty g) in let z : ◌≡◌ {A = ℕ} 0 1 = cc in omega arith
never_both (Belongs.by_day h) g = let e = read_one (ReadDate.ymd_text h) (ReadDate.faulty g) in let z : ◌≡◌ {A = ℕ} 0 1 = cc in omega arith

-- a text has one fault at most
pub one_fault : {s : List ℕ} {f g : Refusal} → Fault s f → Fault s g → f ≡ g
one_fault h k = let e = read_one (ReadDate.faulty h) (ReadDate.faulty k) in cc

-- and writes one date at most, in one of the two ways
pub one_ordinal : {s : List ℕ} {y y' : ℤ} {n n' k k' : ℕ} → OrdinalText s y n k → OrdinalText s y' n' k' → (y ≡ y') × (n ≡ n') × (k ≡ k')
one_ordinal h g = let e = read_one (ReadDate.ordinal_text h) (ReadDate.ordinal_text g) in (cc, cc, cc)

pub one_ymd : {s : List ℕ} {y y' : ℤ} {m m' d d' k k' : ℕ} → YmdText s y m d k → YmdText s y' m' d' k' → (y ≡ y') × (m ≡ m') × (d ≡ d') × (k ≡ k')
one_ymd h g = let e = read_one (ReadDate.ymd_text h) (ReadDate.ymd_text g) in (cc, cc, cc, cc)

pub one_way : {s : List ℕ} {y y' : ℤ} {n k m d k' : ℕ} → OrdinalText s y n k → YmdText s y' m d k' → ⊥
one_way h g = let e = read_one (ReadDate.ordinal_text h) (ReadDate.ymd_text g) in let z : ◌≡◌ {A = ℕ} 0 1 = cc in omega arith

-- the month that a text writes is a month, so that no calendar refuses it 3
pub month_written : {s : List ℕ} {y : ℤ} {m d k : ℕ} → YmdText s y m d k → Month m
month_written (YmdText.ymd yr fq mo ft) = mo
