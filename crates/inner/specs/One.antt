-- A promise of the conversions allows one result.
-- Assumes nothing.
use Rattle.std.specs.Prelude.{◌≡◌, refl, Bool, ℕ, ◌+◌, ℤ, Result, Ok, Option}
use Rattle.std.proofs.Common.{sym, ◌∙◌, ap, subst, arith}
use Rattle.whole.specs.Biased.{unbias_injective}
use Rattle.days.specs.DayByDay.{Label, Reckoning, Is32Bit}
use Rattle.days.proofs.RisingLabels.{place_one, nth_one}
use Rattle.days.specs.BiasedDays.{year_bias}
use Rattle.days.proofs.ClosedStarts.{Starts, InYear, label_of_lem}
use Rattle.days.proofs.ReformationTable.{fits_biased}
use Rattle.inner.specs.Promise.{YearAndOrdinal, OrdinalDay, DayOfOrdinal, numbered, no_such_day, outside_32}
use Rattle.inner.specs.Natural.{biased_year_value, Lowers, within, beyond}
use Rattle.inner.specs.declared.NoNumber.{NoNumber}

-- a day has one year and one ordinal
pub year_and_ordinal_one : {f : ℤ → Label} {n y z : ℤ} {o p : ℕ} → YearAndOrdinal f n y o → YearAndOrdinal f n z p → (y ≡ z) × (o ≡ p)
year_and_ordinal_one a b = (sym a.year_is ∙ b.year_is, place_one a.ordinal_is b.ordinal_is)

ordinal_day_one : {f : ℤ → Label} {y n m : ℤ} {o : ℕ} → OrdinalDay f y o n → OrdinalDay f y o m → n ≡ m
ordinal_day_one a b = nth_one a.of_year_lem a.place b.of_year_lem b.place

pub day_of_ordinal_one : {f : ℤ → Label} {y : ℤ} {o : ℕ} {r s : Result ℤ NoNumber} → DayOfOrdinal f y o r → DayOfOrdinal f y o s → r ≡ s
day_of_ordinal_one (numbered f a) (numbered g b) = ap Ok (ordinal_day_one a b)
day_of_ordinal_one (numbered f a) (no_such_day n) = absurd (n _ a)
day_of_ordinal_one (numbered f a) (outside_32 g b) = absurd (g (subst Is32Bit (ordinal_day_one a b) f))
day_of_ordinal_one (no_such_day n) (numbered g b) = absurd (n _ b)
day_of_ordinal_one (no_such_day n) (no_such_day m) = refl
day_of_ordinal_one (no_such_day n) (outside_32 g b) = absurd (n _ b)
day_of_ordinal_one (outside_32 f a) (numbered g b) = absurd (f (subst Is32Bit (ordinal_day_one b a) g))
day_of_ordinal_one (outside_32 f a) (no_such_day n) = absurd (n _ a)
day_of_ordinal_one (outside_32 f a) (outside_32 g b) = refl

-- ---- Of days and years that are biased as naturals

-- a day has one year and one ordinal: its label tells the year, and the first day of that year tells the ordinal. The starts are
-- `J.starts` and `G.starts` of `days`.
pub in_year_one : {c : Reckoning} {leap_at : ℕ → Bool} {start : ℕ → ℕ} → Starts c leap_at start → {k : ℕ} (y z : ℕ) {o p : ℕ}
    → InYear leap_at start k (biased_year_value y) o → InYear leap_at start k (biased_year_value z) p → (y ≡ z) × (o ≡ p)
in_year_one {start = start} s {k} y z {o} {p} a b =
    let e : biased_year_value y ≡ biased_year_value z = unbias_injective year_bias (biased_year_value y) (biased_year_value z)
    (ap (λ (l : Label). l.year) (sym (label_of_lem s k (biased_year_value y) o a) ∙ label_of_lem s k (biased_year_value z) p b)) in
    (omega arith, rest (start (biased_year_value y)) (start (biased_year_value z)) (ap start e) a.adds b.adds)
  where
    rest : (m n : ℕ) → m ≡ n → m + o ≡ k + 1 → n + p ≡ k + 1 → o ≡ p
    rest m n e f g = omega arith

-- a biased day is of 32 bits, or it is not
pub lowers_one : {k : ℕ} {r s : Option ℤ} → Lowers k r → Lowers k s → r ≡ s
lowers_one (within h) (within g) = refl
lowers_one (within h) (beyond n) = absurd (n (fits_biased h))
lowers_one (beyond n) (within g) = absurd (n (fits_biased g))
lowers_one (beyond n) (beyond m) = refl
