-- THE THEOREMS ON WRITTEN TEXTS: where a date's text stands, and how long it is at most.
use Rattle.std.specs.Prelude.{ℕ, ◌≤◌, ◌<◌, ◌^◌, ◌≡◌, List, ◌∷◌, ◌++◌, length, take, ℤ, nat_abs, Ok}
use Rattle.std.proofs.Common.{sym, ◌∙◌, ap, subst, zero-add, arith, length-append}
use Rattle.std.proofs.Math.Seq.{take-append_seam}
use Rattle.digits.specs.Numerals.{dash}
use Rattle.writer.specs.Promise.{put, WholeDecimal, YmdDecimal, Puts, Writes, WriteYmd}
use Rattle.writer.specs.Laws.{decimal_short}

-- ---- the text of a date

-- what `write_ymd` has put stands at the front of the buffer
pub written_front : {y : ℤ} {m d : ℕ} {b b' : List ℕ} {i : ℕ} → WriteYmd y m d b b' (Ok i) → YmdDecimal (take i b') y m d
written_front {y} {m} {d} {b} {b'} {i} (Writes.writes {t} w p) = subst (λ (s : List ℕ). YmdDecimal s y m d) (sym (fronts p)) w
  where
    fronts : {c : List ℕ} {j : ℕ} → Puts t b 0 c (Ok j) → take j c ≡ t
    fronts (Puts.done k) = ap (λ (n : ℕ). take n (put b 0 t)) (zero-add (length t)) ∙ take-append_seam t _

-- at most 14 bytes, for a year of at most seven digits
year_short : {p : List ℕ} {y : ℤ} → WholeDecimal p y → nat_abs y < 10 ^ 7 → length p ≤ 8
year_short (WholeDecimal.not_negative d) h = omega (arith, decimal_short d 7 (omega arith) h)
year_short (WholeDecimal.negative d) h = omega (arith, decimal_short d 7 (omega arith) h)

pub fourteen : {t : List ℕ} {y : ℤ} {m d : ℕ} → YmdDecimal t y m d → nat_abs y < 10 ^ 7 → m ≤ 12 → d ≤ 31 → length t ≤ 14
fourteen (YmdDecimal.ymd_decimal {p} {q} {t = u} a b c) hy hm hd =
    omega (
      arith,
      length-append p (dash ∷ (q ++ (dash ∷ u))),
      length-append q (dash ∷ u),
      year_short a hy,
      decimal_short b 2 (omega arith) (omega arith),
      decimal_short c 2 (omega arith) (omega arith),
    )
