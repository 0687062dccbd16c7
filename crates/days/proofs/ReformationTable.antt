-- The table of reformations holds: for every 32-bit r, each row says what the three conditions say. A Gregorian label is a Julian one too,
-- on a day that never comes nearer: so where the Gregorian label is later than the Julian one, it stays so.
-- Assumes nothing.
use Rattle.std.specs.Prelude.{◌≡◌, refl, Bool, true, false, not, ◌&&◌, ℕ, zero, suc, ◌+◌, ◌-◌, ◌<◌, ◌≤◌, ◌%◌, eqb, ℤ, pos, ◌-ℤ◌, ◌≤ℤ◌}
use Rattle.std.proofs.Common.{sym, ◌∙◌, ap, subst, subst₂, ⊎_elim, arith, zero-add, suc-add, le_trans, lit≤, SFits}
use Rattle.std.specs.Int.{w32}
use Rattle.whole.specs.Tests as N
use Rattle.whole.specs.Biased.{unbias_back}
use Rattle.whole.specs.Edge.{fits_from, unbias_fits, unbias_fits_only}
use Rattle.whole.specs.Integers.{eq_le, unbias_up, unbias_down, unbias_le, unbias_le_down}
use Rattle.days.specs.DayByDay.{Label, label, label_of, julian, gregorian, month_length, ◌≺◌, by_month, Is32Bit, JulianDayFits, AcceptedReformation}
use Rattle.days.specs.ReformationRules.{Outcome, accepted, refused_1, refused_2, Judged, no_day_before, no_julian_day, not_later, all_three, TableRow, row_1, row_2, row_3, row_4, row_5}
use Rattle.days.proofs.LabelOrder.{≺-irrefl, ≺-trans, ≺-year}
use Rattle.days.proofs.RisingLabels.{up_back}
use Rattle.days.proofs.RisingSpans.{biased_from}
use Rattle.days.specs.BiasedDays.{day_bias, year_bias, day, year, BiasedDay}
use Rattle.days.proofs.ClosedMonths.{twelve}
use Rattle.days.proofs.ClosedStarts.{start_right}
use Rattle.days.proofs.ClosedJulian as J
use Rattle.days.proofs.ClosedGregorian as G
use Rattle.days.proofs.ClosedNumbers.{There, number, numbered, there}
use Rattle.days.proofs.ReckoningLabels.{julian_rises, gregorian_rises}

-- ---- the Julian day of a Gregorian label

-- a month is no shorter in the Julian calendar
pub no_shorter : (b c : Bool) (m : ℕ) → 1 ≤ m → m ≤ 12 → month_length (b && c) m ≤ month_length b m
unfolding month_length
no_shorter true true m h k = omega arith
no_shorter true false m h k = twelve (λ m. month_length false m ≤ month_length true m)
    (lit≤ tt) (lit≤ tt) (lit≤ tt) (lit≤ tt) (lit≤ tt) (lit≤ tt) (lit≤ tt) (lit≤ tt) (lit≤ tt) (lit≤ tt) (lit≤ tt) (lit≤ tt) m h k
no_shorter false c m h k = omega arith

pub there_too : (y m d : ℕ) → There G.leap_at y m d → There J.leap_at y m d
there_too y m d (h, k, g, l) = (h, k, g, le_trans l (no_shorter (J.leap_at y) (not (eqb (y % 100) 0 && not (eqb (y % 400) 0))) m h k))

julian_of : (k : ℕ) → 16_106_132 ≤ k → (j : ℕ) × (label_of julian (day j) ≡ label_of gregorian (day k))
julian_of k h =
    let l : Label = label_of gregorian (day k) in
    let (y, e, u) = biased_from year_bias 0 l.year (subst (λ (m : Label). m.year ≤ℤ l.year) (start_right G.starts 0) from) in
    let q : l ≡ label (year y) l.month l.day = ap (λ (z : ℤ). label z l.month l.day) e in
    (number J.leap_at J.start y l.month l.day, numbered J.starts y l.month l.day (there_too y l.month l.day (there G.starts y l.month l.day (day k, q))) ∙ sym q)
  where
    from : (label_of gregorian (day (G.start 0))).year ≤ℤ (label_of gregorian (day k)).year
    from = ⊎_elim (λ g. ≺-year (gregorian_rises (day (G.start 0)) (day k) (unbias_up day_bias g)))
        (λ g. eq_le (ap (λ (i : ℕ). (label_of gregorian (day i)).year) (same g))) (N.lt_or_ge (G.start 0) k)
      where
        same : k ≤ G.start 0 → G.start 0 ≡ k
        same g = omega arith

-- later labels are on later days in both
pub in_step : {j k i m : ℕ} → label_of julian (day j) ≡ label_of gregorian (day k) → label_of julian (day i) ≡ label_of gregorian (day m) → k < m → j < i
in_step {j} {k} {i} {m} e f h = unbias_down day_bias (up_back julian_rises (subst₂ ◌≺◌ (sym e) (sym f) (gregorian_rises (day k) (day m) (unbias_up day_bias h))))

-- ---- the Gregorian label is later from 1830692 on, and not before
abbrev Later : ℕ → Type 0
Later k = label_of julian (day k) ≺ label_of gregorian (day k)

later_next : (k : ℕ) → 16_106_132 ≤ k → Later k → Later (suc k)
later_next k h p =
    let n : k < suc k = omega arith in
    let (j, e) = julian_of k h in
    let g : k < j = unbias_down day_bias (up_back julian_rises (subst (λ (l : Label). label_of julian (day k) ≺ l) (sym e) p)) in
    let q : label_of julian (day j) ≺ label_of gregorian (day (suc k)) = subst (λ (l : Label). l ≺ label_of gregorian (day (suc k))) (sym e) (gregorian_rises (day k) (day (suc k)) (unbias_up day_bias n)) in
    ⊎_elim (λ i. ≺-trans (julian_rises (day (suc k)) (day j) (unbias_up day_bias i)) q)
    (λ i. subst (λ (n : ℕ). label_of julian (day n) ≺ label_of gregorian (day (suc k))) (same k j g i) q) (N.lt_or_ge (suc k) j)
  where
    same : (k j : ℕ) → k < j → j ≤ suc k → j ≡ suc k
    same k j h g = omega arith

later_on : (k i : ℕ) → 16_106_132 ≤ k → Later k → Later (i + k)
later_on k zero h p = subst Later (sym (zero-add k)) p
later_on k (suc i) h p = subst Later (sym (suc-add i k)) (later_next (i + k) (omega arith) (later_on k i h p))

later_from : (k m : ℕ) → 16_106_132 ≤ k → k ≤ m → Later k → Later m
later_from k m h g p = let e : m - k + k ≡ m = omega arith in subst Later e (later_on k (m - k) h p)

-- day 1830692 is 300-02-29 and 300-03-01, the day before it is 300-02-28 in both
first_later : Later 784_368_640_634
unfolding month_length
first_later = subst₂ ◌≺◌
    (sym (numbered J.starts 2_147_484_300 2 29 (omega arith, omega arith, omega arith, omega arith)))
    (sym (numbered G.starts 2_147_484_300 3 1 (omega arith, omega arith, omega arith, omega arith)))
    (by_month refl (omega arith))

not_yet : label_of julian (day 784_368_640_633) ≡ label_of gregorian (day 784_368_640_633)
unfolding month_length
not_yet = numbered J.starts 2_147_484_300 2 28 (omega arith, omega arith, omega arith, omega arith)
    ∙ sym (numbered G.starts 2_147_484_300 2 28 (omega arith, omega arith, omega arith, omega arith))

is_later : (k : ℕ) → 784_368_640_634 ≤ k → Later k
is_later k h = later_from 784_368_640_634 k (omega arith) h first_later

not_before : (k : ℕ) → 16_106_132 ≤ k → k < 784_368_640_634 → ¬ Later k
not_before k h g p = ≺-irrefl (subst (λ (l : Label). l ≺ label_of gregorian (day 784_368_640_633)) not_yet (later_from k 784_368_640_633 h (omega arith) p))

-- for every whole number from 1830692 on
pub gregorian_later : (n : ℤ) → pos 1_830_692 ≤ℤ n → label_of julian n ≺ label_of gregorian n
gregorian_later n h = let (k, e, u) = biased_from day_bias 784_368_640_634 n h in subst (λ (z : ℤ). label_of julian z ≺ label_of gregorian z) (sym e) (is_later k u)

-- ---- the Julian day of the label fits 32 bits from -2147439514 to 2147439588

-- -5884202-03-16 and 5874777-10-17 are the first and the last 32-bit day in the Julian calendar
first_biased : label_of julian (day 782_219_326_294) ≡ label_of gregorian (day 782_219_370_428)
unfolding month_length
first_biased = numbered J.starts 2_141_599_798 3 16 (omega arith, omega arith, omega arith, omega arith)
    ∙ sym (numbered G.starts 2_141_599_798 3 16 (omega arith, omega arith, omega arith, omega arith))

last_biased : label_of julian (day 786_514_293_589) ≡ label_of gregorian (day 786_514_249_530)
unfolding month_length
last_biased = numbered J.starts 2_153_358_777 10 17 (omega arith, omega arith, omega arith, omega arith)
    ∙ sym (numbered G.starts 2_153_358_777 10 17 (omega arith, omega arith, omega arith, omega arith))

julian_fits : (k : ℕ) → 782_219_370_428 ≤ k → k ≤ 786_514_249_530 → JulianDayFits (day k)
julian_fits k h g =
    let (j, e) = julian_of k (omega arith) in
    record {
      julian_day = day j;
      julian_is = e;
      julian_fits = unbias_fits day_bias j (omega (arith, from j e)) (omega (arith, to j e));
    }
  where
    from : (j : ℕ) → label_of julian (day j) ≡ label_of gregorian (day k) → 782_219_326_294 ≤ j
    from j e = ⊎_elim (λ i. absurd (never i)) (λ i. i) (N.lt_or_ge j 782_219_326_294)
      where
        never : j < 782_219_326_294 → ⊥
        never i = let c : k < 782_219_370_428 = unbias_down day_bias (up_back gregorian_rises (subst₂ ◌≺◌ e first_biased (julian_rises (day j) (day 782_219_326_294) (unbias_up day_bias i)))) in omega arith

    to : (j : ℕ) → label_of julian (day j) ≡ label_of gregorian (day k) → j ≤ 786_514_293_589
    to j e = ⊎_elim (λ i. absurd (never i)) (λ i. i) (N.lt_or_ge 786_514_293_589 j)
      where
        never : 786_514_293_589 < j → ⊥
        never i = let c : 786_514_249_530 < k = unbias_down day_bias (up_back gregorian_rises (subst₂ ◌≺◌ last_biased e (julian_rises (day 786_514_293_589) (day j) (unbias_up day_bias i)))) in omega arith

-- a day that fits is biased as a natural of 32 bits
pub biased_fits : {n : ℤ} → Is32Bit n → (k : ℕ) × (n ≡ day k) × BiasedDay k
biased_fits {n} f =
    let (k, e, u) = biased_from day_bias 782_219_326_294 n (fits_from f) in
    (k, e, record { from = u; to = omega (arith, unbias_fits_only day_bias k (subst (SFits w32) e f)) })

pub fits_biased : {k : ℕ} → BiasedDay k → Is32Bit (day k)
fits_biased {k} h = unbias_fits day_bias k (omega (arith, h.from)) (omega (arith, h.to))

pub fits_only : (k : ℕ) → JulianDayFits (day k) → (782_219_370_428 ≤ k) × (k ≤ 786_514_249_530)
fits_only k p =
    let (j, e, h) = biased_fits p.julian_fits in
    let q : label_of julian (day j) ≡ label_of gregorian (day k) = ap (label_of julian) (sym e) ∙ p.julian_is in (
      ⊎_elim (λ i. absurd (low j h (in_step q first_biased i))) (λ i. i) (N.lt_or_ge k 782_219_370_428),
      ⊎_elim (λ i. absurd (high j h (in_step last_biased q i))) (λ i. i) (N.lt_or_ge 786_514_249_530 k),
    )
  where
    low : (j : ℕ) → BiasedDay j → j < 782_219_326_294 → ⊥
    low j h i = omega (arith, h.from)

    high : (j : ℕ) → BiasedDay j → 786_514_293_589 < j → ⊥
    high j h i = omega (arith, h.to)

-- the day before r is of 32 bits, but for the least r
before_fits : (k : ℕ) → BiasedDay k → 782_219_326_294 < k → Is32Bit (day k -ℤ pos 1)
before_fits k h g = subst (SFits w32) (sym (unbias_back day_bias k 1 (omega arith))) (fits_biased {k = k - 1} (record { from = omega arith; to = omega (arith, h.to) }))

before_not : ¬ Is32Bit (day 782_219_326_294 -ℤ pos 1)
before_not f = omega (arith, unbias_fits_only day_bias 782_219_326_293 f)

-- ---- each row, of naturals
pub accepts : (k : ℕ) → 784_368_640_634 ≤ k → k ≤ 786_514_249_530 → AcceptedReformation (day k)
accepts k h g = record {
  day_before = before_fits k (record { from = omega arith; to = omega arith }) (omega arith);
  later = is_later k h;
  julian_day_fits = julian_fits k (omega arith) g;
}

pub accepts_only : (k : ℕ) → 16_106_132 ≤ k → AcceptedReformation (day k) → (784_368_640_634 ≤ k) × (k ≤ 786_514_249_530)
accepts_only k h p = (
  ⊎_elim (λ i. absurd (not_before k h i p.later)) (λ i. i) (N.lt_or_ge k 784_368_640_634),
  (fits_only k p.julian_day_fits).1,
)

row_judged : (k : ℕ) → BiasedDay k → {o : Outcome} → TableRow (day k) o → Judged (day k) o
row_judged k h (row_1 e) = no_day_before (subst (λ (z : ℤ). ¬ Is32Bit (z -ℤ pos 1)) (sym e) before_not)
row_judged k h (row_2 a b) =
    let u : 782_219_326_295 ≤ k = unbias_le_down day_bias 782_219_326_295 k a in
    let v : k ≤ 782_219_370_427 = unbias_le_down day_bias k 782_219_370_427 b in
    no_julian_day (before_fits k h (omega arith)) (λ p. never v (fits_only k p).0)
  where
    never : k ≤ 782_219_370_427 → 782_219_370_428 ≤ k → ⊥
    never v w = omega arith
row_judged k h (row_3 a b) =
    let u : 782_219_370_428 ≤ k = unbias_le_down day_bias 782_219_370_428 k a in
    let v : k ≤ 784_368_640_633 = unbias_le_down day_bias k 784_368_640_633 b in
    not_later (before_fits k h (omega arith)) (julian_fits k u (omega arith)) (not_before k (omega arith) (omega arith))
row_judged k h (row_4 a b) = all_three (accepts k (unbias_le_down day_bias 784_368_640_634 k a) (unbias_le_down day_bias k 786_514_249_530 b))
row_judged k h (row_5 a b) =
    let u : 786_514_249_531 ≤ k = unbias_le_down day_bias 786_514_249_531 k a in
    no_julian_day (before_fits k h (omega arith)) (λ p. never u (fits_only k p).1)
  where
    never : 786_514_249_531 ≤ k → k ≤ 786_514_249_530 → ⊥
    never v w = omega arith

-- every r is in a row
some_row : (k : ℕ) → BiasedDay k → (o : Outcome) × TableRow (day k) o
some_row k h = ⊎_elim
    (λ a. (refused_1, row_1 (ap day (least a))))
    (λ a. ⊎_elim
    (λ b. (refused_2, row_2 (unbias_le day_bias 782_219_326_295 k a) (unbias_le day_bias k 782_219_370_427 (omega arith))))
    (λ b. ⊎_elim
    (λ c. (refused_1, row_3 (unbias_le day_bias 782_219_370_428 k b) (unbias_le day_bias k 784_368_640_633 (omega arith))))
    (λ c. ⊎_elim
    (λ d. (accepted, row_4 (unbias_le day_bias 784_368_640_634 k c) (unbias_le day_bias k 786_514_249_530 (omega arith))))
    (λ d. (refused_2, row_5 (unbias_le day_bias 786_514_249_531 k d) (unbias_le day_bias k 786_514_293_589 (omega (arith, h.to)))))
    (N.lt_or_ge k 786_514_249_531))
    (N.lt_or_ge k 784_368_640_634))
    (N.lt_or_ge k 782_219_370_428))
    (N.lt_or_ge k 782_219_326_295)
  where
    least : k < 782_219_326_295 → k ≡ 782_219_326_294
    least a = omega (arith, h.from)

-- ---- the theorem

-- the conditions give one outcome
pub judged_one : {r : ℤ} {o p : Outcome} → Judged r o → Judged r p → o ≡ p
judged_one (no_day_before a) (no_day_before a') = refl
judged_one (no_day_before a) (no_julian_day b' c') = absurd (a b')
judged_one (no_day_before a) (not_later b' c' d') = refl
judged_one (no_day_before a) (all_three e') = absurd (a e'.day_before)
judged_one (no_julian_day b c) (no_day_before a') = absurd (a' b)
judged_one (no_julian_day b c) (no_julian_day b' c') = refl
judged_one (no_julian_day b c) (not_later b' c' d') = absurd (c c')
judged_one (no_julian_day b c) (all_three e') = absurd (c e'.julian_day_fits)
judged_one (not_later b c d) (no_day_before a') = refl
judged_one (not_later b c d) (no_julian_day b' c') = absurd (c' c)
judged_one (not_later b c d) (not_later b' c' d') = refl
judged_one (not_later b c d) (all_three e') = absurd (d e'.later)
judged_one (all_three e) (no_day_before a') = absurd (a' e.day_before)
judged_one (all_three e) (no_julian_day b' c') = absurd (c' e.julian_day_fits)
judged_one (all_three e) (not_later b' c' d') = absurd (d' e.later)
judged_one (all_three e) (all_three e') = refl

-- for every 32-bit r, the outcome of its row is that of the conditions, and the other way round
pub table_holds : (r : ℤ) → Is32Bit r → (o : Outcome) → (TableRow r o → Judged r o) × (Judged r o → TableRow r o)
table_holds r f o =
    let (k, e, h) = biased_fits f in
    subst (λ (z : ℤ). (TableRow z o → Judged z o) × (Judged z o → TableRow z o)) (sym e)
    (row_judged k h, λ j. let (p, w) = some_row k h in subst (TableRow (day k)) (judged_one (row_judged k h w) j) w)

-- and there is an outcome
pub judged_some : (r : ℤ) → Is32Bit r → (o : Outcome) × Judged r o
judged_some r f =
    let (k, e, h) = biased_fits f in
    let (o, w) = some_row k h in
    (o, subst (λ (z : ℤ). Judged z o) (sym e) (row_judged k h w))
