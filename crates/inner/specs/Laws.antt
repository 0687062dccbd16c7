-- From the arithmetic of the conversions to what they promise. A reckoning alone is a calendar with one run of days.
-- Assumes nothing.
use Rattle.std.specs.Prelude.{◌≡◌, refl, Bool, ℕ, ◌+◌, ◌-◌, ◌*◌, ◌/◌, ◌%◌, ◌<◌, ◌≤◌, ◌^◌, eqb, ℤ, Result, Option, Some, None, ok_or}
use Rattle.std.proofs.Common.{sym, ◌∙◌, ap, subst, ⊎_elim, arith, add_comm, add-one, eq-eqb, ne_eqb, to_z, of_z}
use Rattle.std.specs.Int.{w32}
use Rattle.whole.specs.Tests.{lt_or_ge, eq_or_not}
use Rattle.whole.specs.Promise.{unbias}
use Rattle.whole.specs.Machine.{back, unbias_both}
use Rattle.whole.specs.Edge.{unbias_fits_only}
use Rattle.days.specs.DayByDay.{Label, Reckoning, label_of, julian, gregorian, julian_leap, gregorian_leap, Calendar, Julian, Gregorian, labels, OfYear, Place, Ordinal}
use Rattle.days.proofs.RisingLabels.{nth_within}
use Rattle.days.specs.BiasedDays.{day_bias, day, year, BiasedDay, BiasedYear}
use Rattle.days.specs.ClosedYear.{year_length}
use Rattle.days.proofs.ClosedStarts.{Starts, InYear, label_of_lem}
use Rattle.days.proofs.ClosedJulian as J
use Rattle.days.proofs.ClosedGregorian as G
use Rattle.days.proofs.ReformationTable.{fits_biased}
use Rattle.days.proofs.ClosedRuns.{Runs, top, julian_runs, gregorian_runs, year_first, first_julian, first_gregorian, year_stretch, year_plain}
use Rattle.inner.specs.Promise.{YearAndOrdinal, OrdinalDay, DayOfOrdinal, numbered, no_such_day, outside_32}
use Rattle.inner.specs.Natural.{biased_day, biased_year_value, Lowers, within, beyond, OrdinalNumber, off_year, on_year}
use Rattle.inner.specs.declared.NoNumber.{NoNumber}
use Rattle.inner.specs.declared.NoNumber.TheVariants as NoNumber'

-- ---- Raised numbers

pub biased_day_lem : (x : ℕ) → day (biased_day x) ≡ unbias (2 ^ 31) x
biased_day_lem x = ap day (add_comm x 782_219_326_294) ∙ unbias_both 782_219_326_294 (2 ^ 31) x

pub biased_year : (x : ℕ) → year (biased_year_value x) ≡ unbias (2 ^ 31) x
biased_year x = ap year (add_comm x 352) ∙ unbias_both 352 (2 ^ 31) x

pub raised_day_biased : {x : ℕ} → x < 2 ^ 32 → BiasedDay (biased_day x)
raised_day_biased h = record { from = omega arith; to = omega arith }

pub raised_year_biased : {x : ℕ} → x < 2 ^ 32 → BiasedYear (biased_year_value x)
raised_year_biased h = record { from = omega arith; to = omega arith }

-- ---- Leap years
pub julian_leap_lem : (y : ℕ) → julian_leap (year y) ≡ J.leap_at y
unfolding julian
julian_leap_lem y = (J.starts).leap_is y

pub gregorian_leap_lem : (y : ℕ) → gregorian_leap (year y) ≡ G.leap_at y
unfolding gregorian
gregorian_leap_lem y = (G.starts).leap_is y

-- of a multiple of 4, 100 divides it exactly if 25 does, and then 400 does exactly if 16 does
by_100 : (y : ℕ) → y % 4 ≡ 0 → (y % 25 ≡ 0 → ⊥) → y % 100 ≡ 0 → ⊥
by_100 y e n f = n (omega arith)

pub leap_by_4 : (y : ℕ) → (y % 25 ≡ 0 → ⊥) → eqb (y % 4) 0 ≡ G.leap_at y
leap_by_4 y n = ⊎_elim
    (λ e. eq-eqb (y % 4) 0 e ∙ sym (simp (eq-eqb (y % 4) 0 e, ne_eqb (y % 100) 0 (by_100 y e n))))
    (λ m. ne_eqb (y % 4) 0 m ∙ sym (simp (ne_eqb (y % 4) 0 m)))
    (eq_or_not (y % 4) 0)

pub leap_by_16 : (y : ℕ) → y % 25 ≡ 0 → eqb (y % 16) 0 ≡ G.leap_at y
leap_by_16 y e = ⊎_elim
    (λ f. let g : y % 4 ≡ 0 = by_4 y f in let h : y % 100 ≡ 0 = hundred y g e in eq-eqb (y % 16) 0 f ∙ sym (simp (eq-eqb (y % 4) 0 g, eq-eqb (y % 100) 0 h, eq-eqb (y % 400) 0 (four_hundred y h f))))
    (λ n. ne_eqb (y % 16) 0 n ∙ sym (⊎_elim
    (λ g. let h : y % 100 ≡ 0 = hundred y g e in simp (eq-eqb (y % 4) 0 g, eq-eqb (y % 100) 0 h, ne_eqb (y % 400) 0 (by_400 y n)))
    (λ m. simp (ne_eqb (y % 4) 0 m))
    (eq_or_not (y % 4) 0)))
    (eq_or_not (y % 16) 0)
  where
    by_4 : (y : ℕ) → y % 16 ≡ 0 → y % 4 ≡ 0
    by_4 y f = omega arith

    hundred : (y : ℕ) → y % 4 ≡ 0 → y % 25 ≡ 0 → y % 100 ≡ 0
    hundred y g e = at (y / 4 - 6 * (y / 25)) (omega arith)
      where
        at : (r : ℕ) → y ≡ 100 * r → y % 100 ≡ 0
        at r q = omega arith

    four_hundred : (y : ℕ) → y % 100 ≡ 0 → y % 16 ≡ 0 → y % 400 ≡ 0
    four_hundred y h f = at (y / 16 - 6 * (y / 100)) (omega arith)
      where
        at : (r : ℕ) → y ≡ 400 * r → y % 400 ≡ 0
        at r q = omega arith

    by_400 : (y : ℕ) → (y % 16 ≡ 0 → ⊥) → y % 400 ≡ 0 → ⊥
    by_400 y n f = n (omega arith)

-- ---- A reckoning alone
pub record Alone (c : Calendar) (r : ℕ) (reckoning : Reckoning) (leap_at : ℕ → Bool) (start : ℕ → ℕ) : Type 0 where
  pub runs : Runs c r
  pub starts : Starts reckoning leap_at start
  pub same : (n : ℤ) → labels c n ≡ label_of reckoning n
  pub first : (y : ℕ) → BiasedYear y → year_first r y ≡ start y
  pub first_next : (y : ℕ) → BiasedYear y → year_first r (y + 1) ≡ start (y + 1)

pub julian_alone : Alone Julian top julian J.leap_at J.start
julian_alone = record {
  runs = julian_runs;
  starts = J.starts;
  same = λ n. refl;
  first = λ y h. first_julian top (J.start y) (G.start y) (omega (arith, h.to));
  first_next = λ y h. first_julian top (J.start (y + 1)) (G.start (y + 1)) (omega (arith, h.to));
}

pub gregorian_alone : Alone Gregorian 0 gregorian G.leap_at G.start
gregorian_alone = record {
  runs = gregorian_runs;
  starts = G.starts;
  same = λ n. refl;
  first = λ y h. year_plain gregorian_runs y h (omega arith);
  first_next = λ y h. first_gregorian 0 (J.start (y + 1)) (G.start (y + 1)) (omega arith) (omega arith);
}

module _ {c : Calendar} {r : ℕ} {reckoning : Reckoning} {leap_at : ℕ → Bool} {start : ℕ → ℕ} (alone : Alone c r reckoning leap_at start) where
  of_year_lem : {k y o : ℕ} → InYear leap_at start k y o → OfYear (year y) (labels c (day k))
  of_year_lem {k} {y} {o} p = ap (λ (l : Label). l.year) (alone.same (day k) ∙ label_of_lem alone.starts k y o p)

  place_of : {k y o : ℕ} → BiasedYear y → InYear leap_at start k y o → Place (λ d. OfYear (year y) (labels c d)) (day k) o
  place_of {k} {y} {o} h p =
      let e : k + 1 - year_first r y ≡ o = ap (λ (a : ℕ). k + 1 - a) (alone.first y h) ∙ rest (start y) p.adds in
      subst (Place (λ d. OfYear (year y) (labels c d)) (day k)) e ((year_stretch alone.runs y h).here k (of_year_lem p)).2
    where
      rest : (a : ℕ) → a + o ≡ k + 1 → k + 1 - a ≡ o
      rest a e = omega arith

  -- a year and an ordinal that add up to a day are the day's
  pub spot_year_and_ordinal : {k y o : ℕ} {n z : ℤ} → BiasedYear y → InYear leap_at start k y o → day k ≡ n → year y ≡ z → YearAndOrdinal (labels c) n z o
  spot_year_and_ordinal {k} {y} {o} {z = z} h p e f = record {
    year_is = subst (λ (n : ℤ). OfYear z (labels c n)) e (of_year_lem p ∙ f);
    ordinal_is = subst (λ (n : ℤ). Ordinal (labels c) n o) e (subst (λ (z : ℤ). Place (λ d. OfYear z (labels c d)) (day k) o) (sym (of_year_lem p)) (place_of h p));
  }

  -- and the other way round: a day of a year has its ordinal there
  pub spot_of_year : {k y : ℕ} → BiasedYear y → OfYear (year y) (labels c (day k)) → InYear leap_at start k y (k + 1 - start y)
  spot_of_year {k} {y} h p =
      let (a, b, q) = (year_stretch alone.runs y h).here k p in
      let n : start (y + 1) ≡ start y + year_length (leap_at y) = ap start (add-one y) ∙ alone.starts.start_next y in
      between (alone.first y h) (alone.first_next y h ∙ n) a b
    where
      between : {a b : ℕ} → a ≡ start y → b ≡ start y + year_length (leap_at y) → a ≤ k → k < b → InYear leap_at start k y (k + 1 - start y)
      between e f g i = record { from = (some (start y) (year_length (leap_at y)) e f g i).0; to = (some (start y) (year_length (leap_at y)) e f g i).1; adds = (some (start y) (year_length (leap_at y)) e f g i).2 }
        where
          some : {a b : ℕ} (s l : ℕ) → a ≡ s → b ≡ s + l → a ≤ k → k < b → (1 ≤ k + 1 - s) × (k + 1 - s ≤ l) × (s + (k + 1 - s) ≡ k + 1)
          some s l e f g i = (omega arith, omega arith, omega arith)

  -- the o-th day of a year
  pub ordinal_day : {y o : ℕ} → BiasedYear y → 1 ≤ o → o ≤ year_length (leap_at y) → OrdinalDay (labels c) (year y) o (day (start y + o - 1))
  ordinal_day {y} {o} h f t =
      let p : InYear leap_at start (start y + o - 1) y o = record { from = f; to = t; adds = sum (start y) } in
      record { of_year_lem = of_year_lem p; place = place_of h p }
    where
      sum : (a : ℕ) → a + o ≡ a + o - 1 + 1
      sum a = omega arith

  pub ordinal_within_year : {y o : ℕ} {n : ℤ} → BiasedYear y → OrdinalDay (labels c) (year y) o n → (1 ≤ o) × (o ≤ year_length (leap_at y))
  ordinal_within_year {y} {o} h p =
      let (f, t) = nth_within (year_stretch alone.runs y h).days p.of_year_lem p.place in
      (f, subst (λ (k : ℕ). o ≤ k) days t)
    where
      days : year_first r (y + 1) - year_first r y ≡ year_length (leap_at y)
      days =
          let n : start (y + 1) ≡ start y + year_length (leap_at y) = ap start (add-one y) ∙ alone.starts.start_next y in
          rest (alone.first y h) (alone.first_next y h ∙ n)
        where
          rest : {a b s l : ℕ} → a ≡ s → b ≡ s + l → b - a ≡ l
          rest e f = omega arith

  -- so the answers
  pub ordinal_answer : {y o s : ℕ} {z : ℤ} {b : Bool} {d : Result ℤ NoNumber} → BiasedYear y → year y ≡ z → b ≡ leap_at y → s ≡ start y → OrdinalNumber b s o d → DayOfOrdinal (labels c) z o d
  ordinal_answer {y} {o} {s} {d = d} h e f g n =
      subst (λ (z : ℤ). DayOfOrdinal (labels c) z o d) e (by (subst (λ (s : ℕ). OrdinalNumber (leap_at y) s o d) g (subst (λ (b : Bool). OrdinalNumber b s o d) f n)))
    where
      lowered_is : {d : Option ℤ} → 1 ≤ o → o ≤ year_length (leap_at y) → Lowers (start y + o - 1) d → DayOfOrdinal (labels c) (year y) o (ok_or d NoNumber'.Outside32)
      lowered_is u t (within w) = numbered (fits_biased w) (ordinal_day h u t)
      lowered_is u t (beyond b) = outside_32 b (ordinal_day h u t)

      by : {d : Result ℤ NoNumber} → OrdinalNumber (leap_at y) (start y) o d → DayOfOrdinal (labels c) (year y) o d
      by (off_year n) = no_such_day (λ i p. n (ordinal_within_year h p))
      by (on_year u t l) = lowered_is u t l

-- a biased year that was lowered by 352 is raised again
pub spot_again : {leap_at : ℕ → Bool} {start : ℕ → ℕ} {k y o : ℕ} → BiasedYear y → InYear leap_at start k y o → InYear leap_at start k (y - 352 + 352) o
spot_again {leap_at} {start} {k} {y} {o} h p = let e : y ≡ y - 352 + 352 = omega (arith, h.from) in subst (λ (y : ℕ). InYear leap_at start k y o) e p

-- the year and ordinal of a day by quarters of a day, of which a year has 1461
pub by_quarters : (k : ℕ) → InYear J.leap_at J.start k (4 * k / 1461) (4 * k % 1461 / 4 + 1)
by_quarters k = record {
  from = omega arith;
  to = ⊎_elim (λ e. omega (arith, J.length_leap (4 * k / 1461) e)) (λ n. omega (arith, short n, J.length_common (4 * k / 1461) n)) (eq_or_not (4 * k / 1461 % 4) 0);
  adds = omega arith;
}
  where
    fourth : (y z : ℕ) → y ≡ 4 * z → y % 4 ≡ 0
    fourth y z e = omega arith

    short : (4 * k / 1461 % 4 ≡ 0 → ⊥) → 4 * k % 1461 < 1460
    short n = ⊎_elim (λ l. l) (λ g. absurd (n (fourth (4 * k / 1461) (k - 365 * (4 * k / 1461) - 365) (omega arith)))) (lt_or_ge (4 * k % 1461) 1460)

-- ---- A biased day in 32 bits
pub lowers_below : {k : ℕ} → k < 782_219_326_294 → Lowers k None
lowers_below {k} h = beyond (λ f. never (unbias_fits_only day_bias k f))
  where
    never : (day_bias ≤ k + 2 ^ 31) × (k < day_bias + 2 ^ 31) → ⊥
    never p = omega arith

pub lowers_above : {k : ℕ} → 786_514_293_590 ≤ k → Lowers k None
lowers_above {k} h = beyond (λ f. never (unbias_fits_only day_bias k f))
  where
    never : (day_bias ≤ k + 2 ^ 31) × (k < day_bias + 2 ^ 31) → ⊥
    never p = omega arith

pub lowers_within : {k : ℕ} {z : ℤ} → 782_219_326_294 ≤ k → k < 786_514_293_590 → z ≡ unbias (2 ^ 31) (k - 782_219_326_294) → Lowers k (Some (to_z w32 (of_z w32 z)))
lowers_within {k} {z} h g e =
    let w : BiasedDay k = record { from = h; to = g } in
    subst (λ (z : ℤ). Lowers k (Some z)) (sym (back (e ∙ same) (fits_biased w))) (within w)
  where
    over : k - 782_219_326_294 + 782_219_326_294 ≡ k
    over = omega arith

    same : unbias (2 ^ 31) (k - 782_219_326_294) ≡ day k
    same = sym (biased_day_lem (k - 782_219_326_294)) ∙ ap day over
