-- The Swedish calendar by its months: each month begins on its first day and has its days one after the other, so a month is its first day and
-- its length. Three Februaries have another length than their year has it: 28 days in 1700, 30 in 1712, 17 in 1753. From March 1700 up to
-- February 1712 months begin a day before the Julian ones. And which labels are skipped.
-- Assumes nothing.
use Rattle.std.specs.Prelude.{◌≡◌, refl, Bool, cond, ◌⊎◌, ℕ, suc, ◌+◌, ◌-◌, ◌*◌, ◌<◌, ◌≤◌, ℤ, pos, nat_abs, ◌-ℤ◌, ◌<ℤ◌}
use Rattle.std.proofs.Common.{sym, ◌∙◌, subst, subst₂, inl, inr, lt-ltb, le-ltb}
use Rattle.std.proofs.Math.Path.{ap}
use Rattle.std.proofs.Math.Logic.{⊎_elim}
use native.Mathlib.Omega.{arith}
use Rattle.std.proofs.Math.IntN.{suc_ℤ}
use Rattle.whole.specs.Tests as N
use Rattle.whole.specs.Biased.{unbias_add, unbias_injective, unbias_suc}
use Rattle.whole.specs.Integers.{lt_le, unbias_up, unbias_down, unbias_le}
use Rattle.days.specs.DayByDay.{Label, label, label_of, julian, gregorian, month_length, ◌≺◌, by_year, by_month, by_day, SwedishStyle, JulianStyle, GregorianStyle, Swedish, labels, style, timeline, Rises, Reckoning, OfYear, OfMonth, YearLength, Ordinal, splice, Borne, SwitchDay, this, later, Skipped, Missing}
use Rattle.days.specs.BiasedDays.{day_bias, year_bias, day, year}
use Rattle.days.proofs.ClosedStarts.{Starts}
use Rattle.days.proofs.ClosedJulian as J
use Rattle.days.proofs.ClosedGregorian as G
use Rattle.days.proofs.RisingLabels.{up_back, once}
use Rattle.days.proofs.ClosedNumbers.{There, number, numbered, days_before_value, within_year, month_past_lem}
use Rattle.days.proofs.ReckoningLabels.{julian_rises, gregorian_rises}
use Rattle.days.proofs.RisingTimelines.{in_era, timeline_proper}
use Rattle.days.proofs.ReckoningSteps.{month_some}
use Rattle.days.proofs.RisingSpans.{next_month, Stretch, stretch, first_at, year_span, month_span_lem, biased_from}
use Rattle.days.proofs.LabelOrder.{≺-trans}
use Rattle.days.proofs.SkippedLabels.{skippable_julian}
use Rattle.days.proofs.Swedish.{sweden, first_era, moved_era_lem, leap_era_lem, again_era, reformed_era, swedish_rises, last_before_1700, first_moved, last_moved, thirtieth, first_julian_again, last_julian_1753, first_gregorian_1753}
pub use Rattle.days.specs.SwedishMonths.{SwedishMonth, old_month, february_1700, moved_month, february_1712, again_month, february_1753, new_month, SwedishGap, in_1700, in_1753}

-- ---- The eras on naturals
module _ (k : ℕ) where
  pub in_first : k < 784_369_151_984 → (labels Swedish (day k) ≡ label_of julian (day k)) × (style Swedish (day k) ≡ JulianStyle)
  in_first h = in_era sweden (day k) (first_era (unbias_up day_bias h))

  pub in_moved : 784_369_151_984 ≤ k → k < 784_369_156_367 → (labels Swedish (day k) ≡ label_of julian (day (k + 1))) × (style Swedish (day k) ≡ SwedishStyle)
  in_moved h g =
      let p = in_era sweden (day k) (moved_era_lem (unbias_le day_bias 784_369_151_984 k h) (unbias_up day_bias g)) in
      (p.0 ∙ ap (label_of julian) (sym (unbias_add day_bias k 1)), p.1)

  pub in_leapt : k ≡ 784_369_156_367 → (labels Swedish (day k) ≡ label (pos 1712) 2 30) × (style Swedish (day k) ≡ SwedishStyle)
  in_leapt h =
      let g : k < 784_369_156_368 = omega arith in
      in_era sweden (day k) (leap_era_lem (unbias_le day_bias 784_369_156_367 k (omega arith)) (unbias_up day_bias g))

  pub in_again : 784_369_156_368 ≤ k → k < 784_369_171_332 → (labels Swedish (day k) ≡ label_of julian (day k)) × (style Swedish (day k) ≡ JulianStyle)
  in_again h g = in_era sweden (day k) (again_era (unbias_le day_bias 784_369_156_368 k h) (unbias_up day_bias g))

  pub in_reformed : 784_369_171_332 ≤ k → (labels Swedish (day k) ≡ label_of gregorian (day k)) × (style Swedish (day k) ≡ GregorianStyle)
  in_reformed h = in_era sweden (day k) (reformed_era (unbias_le day_bias 784_369_171_332 k h))

-- ---- The order of labels by months counted through
earlier : (y m d y' m' d' : ℕ) → 1 ≤ m → m' ≤ 12 → 12 * y + m < 12 * y' + m' → label (year y) m d ≺ label (year y') m' d'
earlier y m d y' m' d' u v h = ⊎_elim (λ g. by_year (unbias_up year_bias g))
    (λ g. let e : y ≡ y' = omega arith in by_month (ap year e) (omega arith))
    (N.lt_or_ge y y')

not_earlier : (y m d y' m' : ℕ) → m ≤ 12 → 1 ≤ m' → 12 * y' + m' ≤ 12 * y + m → 1 ≤ d → ¬ (label (year y) m d ≺ label (year y') m' 1)
not_earlier y m d y' m' u v h f (by_year g) = let i : y < y' = unbias_down year_bias g in omega arith
not_earlier y m d y' m' u v h f (by_month e g) = omega (arith, unbias_injective year_bias y y' e)
not_earlier y m d y' m' u v h f (by_day e i g) = omega arith

-- a day by its label, before or from a day whose label is known
module _ {c : Reckoning} {leap_at : ℕ → Bool} {start : ℕ → ℕ} (s : Starts c leap_at start) (up : Rises (label_of c)) (y m d : ℕ) (t : There leap_at y m d) {a : ℕ} {l : Label} (e : label_of c (day a) ≡ l) where
  day_below : label (year y) m d ≺ l → number leap_at start y m d < a
  day_below h = unbias_down day_bias (up_back up (subst₂ ◌≺◌ (sym (numbered s y m d t)) (sym e) h))

  day_from : ¬ (label (year y) m d ≺ l) → a ≤ number leap_at start y m d
  day_from h = ⊎_elim (λ g. absurd (h (subst₂ ◌≺◌ (numbered s y m d t) e (up (day (number leap_at start y m d)) (day a) (unbias_up day_bias g))))) (λ g. g) (N.lt_or_ge (number leap_at start y m d) a)

-- ---- The labels of the days of the switches in their reckonings
feb_29_1700 : label_of julian (day 784_369_151_984) ≡ label (pos 1700) 2 29
unfolding month_length
feb_29_1700 = numbered J.starts 2_147_485_700 2 29 (omega arith, omega arith, omega arith, omega arith)

march_1700 : label_of julian (day 784_369_151_985) ≡ label (pos 1700) 3 1
unfolding month_length
march_1700 = numbered J.starts 2_147_485_700 3 1 (omega arith, omega arith, omega arith, omega arith)

march_1712 : label_of julian (day 784_369_156_368) ≡ label (pos 1712) 3 1
unfolding month_length
march_1712 = numbered J.starts 2_147_485_712 3 1 (omega arith, omega arith, omega arith, omega arith)

feb_18_1753 : label_of julian (day 784_369_171_332) ≡ label (pos 1753) 2 18
unfolding month_length
feb_18_1753 = numbered J.starts 2_147_485_753 2 18 (omega arith, omega arith, omega arith, omega arith)

march_1753 : label_of gregorian (day 784_369_171_332) ≡ label (pos 1753) 3 1
unfolding month_length
march_1753 = numbered G.starts 2_147_485_753 3 1 (omega arith, omega arith, omega arith, omega arith)

-- ---- The days of a month, by eras
module _ (y m d : ℕ) (u : 1 ≤ m) (v : m ≤ 12) (f : 1 ≤ d) where
  -- up to February 1700
  first_days : 12 * y + m < 25_769_828_403 → There J.leap_at y m d → (12 * y + m ≡ 25_769_828_402 → d ≤ 28) → labels Swedish (day (number J.leap_at J.start y m d)) ≡ label (year y) m d
  unfolding month_length
  first_days h t few = (in_first (number J.leap_at J.start y m d)
      (day_below J.starts julian_rises y m d t feb_29_1700 before)).0 ∙ numbered J.starts y m d t
    where
      before : label (year y) m d ≺ label (year 2_147_485_700) 2 29
      before = ⊎_elim (λ g. earlier y m d 2_147_485_700 2 29 u (omega arith) (omega arith))
          (λ g. let e : y ≡ 2_147_485_700 = omega arith in by_day (ap year e) (omega arith) (omega (arith, few (omega arith))))
          (N.lt_or_ge (12 * y + m) 25_769_828_402)

  -- from March 1700 up to 29 February 1712
  moved_days : 25_769_828_403 ≤ 12 * y + m → 12 * y + m < 25_769_828_547 → There J.leap_at y m d → labels Swedish (day (number J.leap_at J.start y m d - 1)) ≡ label (year y) m d
  unfolding month_length
  moved_days h g t =
      let a : 784_369_151_985 ≤ number J.leap_at J.start y m d = day_from J.starts julian_rises y m d t march_1700 (not_earlier y m d 2_147_485_700 3 v (omega arith) (omega arith) f) in
      let b : number J.leap_at J.start y m d < 784_369_156_368 = day_below J.starts julian_rises y m d t march_1712 (earlier y m d 2_147_485_712 3 1 u (omega arith) (omega arith)) in
      back (number J.leap_at J.start y m d) a b ∙ numbered J.starts y m d t
    where
      one : (n : ℕ) → 1 ≤ n → n - 1 + 1 ≡ n
      one n h = omega arith

      back : (n : ℕ) → 784_369_151_985 ≤ n → n < 784_369_156_368 → labels Swedish (day (n - 1)) ≡ label_of julian (day n)
      back n a b = (in_moved (n - 1) (omega arith) (omega arith)).0 ∙ ap (λ (i : ℕ). label_of julian (day i)) (one n (omega arith))

  -- from March 1712 up to 17 February 1753
  again_days : 25_769_828_547 ≤ 12 * y + m → 12 * y + m < 25_769_829_039 → There J.leap_at y m d → (12 * y + m ≡ 25_769_829_038 → d ≤ 17) → labels Swedish (day (number J.leap_at J.start y m d)) ≡ label (year y) m d
  unfolding month_length
  again_days h g t few = (in_again (number J.leap_at J.start y m d)
      (day_from J.starts julian_rises y m d t march_1712 (not_earlier y m d 2_147_485_712 3 v (omega arith) (omega arith) f))
      (day_below J.starts julian_rises y m d t feb_18_1753 before)).0 ∙ numbered J.starts y m d t
    where
      before : label (year y) m d ≺ label (year 2_147_485_753) 2 18
      before = ⊎_elim (λ i. earlier y m d 2_147_485_753 2 18 u (omega arith) (omega arith))
          (λ i. let e : y ≡ 2_147_485_753 = omega arith in by_day (ap year e) (omega arith) (omega (arith, few (omega arith))))
          (N.lt_or_ge (12 * y + m) 25_769_829_038)

  -- from March 1753 on
  reformed_days : 25_769_829_039 ≤ 12 * y + m → There G.leap_at y m d → labels Swedish (day (number G.leap_at G.start y m d)) ≡ label (year y) m d
  unfolding month_length
  reformed_days h t = (in_reformed (number G.leap_at G.start y m d)
      (day_from G.starts gregorian_rises y m d t march_1753 (not_earlier y m d 2_147_485_753 3 v (omega arith) (omega arith) f))).0 ∙ numbered G.starts y m d t

-- the day before the place of a day in a month that begins a day earlier
a_day_earlier : (a d : ℕ) → 1 ≤ a → 1 ≤ d → a - 1 + d - 1 ≡ a + d - 1 - 1
a_day_earlier a d h f = omega arith

begun : (y b : ℕ) → 1 ≤ y → 1 ≤ J.start y + b
begun y b h = omega arith

module _ (y m : ℕ) (u : 1 ≤ m) (v : m ≤ 12) where
  -- each of its days bears its place in it
  pub swedish_day : {a n : ℕ} → SwedishMonth y m a n → (d : ℕ) → 1 ≤ d → d ≤ n → labels Swedish (day (a + d - 1)) ≡ label (year y) m d
  unfolding month_length
  swedish_day (old_month h) d f g = first_days y m d u v f (omega arith) (u, v, f, g) (λ e. omega arith)
  swedish_day (february_1700 e i) d f g = first_days y m d u v f (omega arith) (subst₂ (λ (y m : ℕ). There J.leap_at y m d) (sym e) (sym i) (omega arith, omega arith, f, omega arith)) (λ e. g)
  swedish_day (moved_month h k) d f g =
      ap (λ (n : ℕ). labels Swedish (day n)) (a_day_earlier (J.start y + days_before_value (J.leap_at y) m) d (begun y (days_before_value (J.leap_at y) m) (omega arith)) f)
      ∙ moved_days y m d u v f h (omega arith) (u, v, f, g)
  swedish_day (february_1712 e i) d f g = ⊎_elim
      (λ h. ap (λ (n : ℕ). labels Swedish (day n)) (a_day_earlier (J.start y + days_before_value (J.leap_at y) m) d (begun y (days_before_value (J.leap_at y) m) (omega arith)) f)
      ∙ moved_days y m d u v f (omega arith) (omega arith) (subst₂ (λ (y m : ℕ). There J.leap_at y m d) (sym e) (sym i) (omega arith, omega arith, f, omega arith)))
      (λ h. let j : d ≡ 30 = omega arith in rw (e, i, j) (in_leapt 784_369_156_367 refl).0)
      (N.lt_or_ge d 30)
  swedish_day (again_month h k) d f g = again_days y m d u v f h (omega arith) (u, v, f, g) (λ e. omega arith)
  swedish_day (february_1753 e i) d f g = again_days y m d u v f (omega arith) (omega arith) (subst₂ (λ (y m : ℕ). There J.leap_at y m d) (sym e) (sym i) (omega arith, omega arith, f, omega arith)) (λ e. g)
  swedish_day (new_month h) d f g = reformed_days y m d u v f h (u, v, f, g)

-- ---- Past a month comes the first of the next
next_is : (y m : ℕ) → m ≤ 12 → (m < 12 → next_month (year y) m ≡ label (year y) (suc m) 1) × (12 ≤ m → next_month (year y) m ≡ label (year (suc y)) 1 1)
next_is y m v = (
  λ h. ap (λ (t : Bool). cond t (label (year y) (suc m) 1) (label (suc_ℤ (year y)) 1 1)) (lt-ltb m 12 h),
  λ h. ap (λ (t : Bool). cond t (label (year y) (suc m) 1) (label (suc_ℤ (year y)) 1 1)) (le-ltb m 12 h) ∙ ap (λ (z : ℤ). label z 1 1) (sym (unbias_suc year_bias y)),
)

no_later : (y m y' m' d' : ℕ) → 1 ≤ m → m' ≤ 12 → 12 * y + m ≤ 12 * y' + m' → 1 ≤ m' → m ≤ 12 → 1 < d' → label (year y) m 1 ≺ label (year y') m' d'
no_later y m y' m' d' u v h i j f = ⊎_elim (λ g. earlier y m 1 y' m' d' u v g)
    (λ g. let e : y ≡ y' = omega arith in by_day (ap year e) (omega arith) f) (N.lt_or_ge (12 * y + m) (12 * y' + m'))

module _ (y m : ℕ) (u : 1 ≤ m) (v : m ≤ 12) (y' m' : ℕ) (i : 1 ≤ m') (j : m' ≤ 12) where
  next_before : {d' : ℕ} → 12 * y + m + 1 ≤ 12 * y' + m' → 1 < d' → next_month (year y) m ≺ label (year y') m' d'
  next_before {d'} h f = ⊎_elim
      (λ g. subst (λ (l : Label). l ≺ label (year y') m' d') (sym ((next_is y m v).0 g)) (no_later y (suc m) y' m' d' (omega arith) j (omega arith) i (omega arith) f))
      (λ g. subst (λ (l : Label). l ≺ label (year y') m' d') (sym ((next_is y m v).1 g)) (no_later (suc y) 1 y' m' d' (omega arith) j (omega arith) i (omega arith) f))
      (N.lt_or_ge m 12)

  next_from : 12 * y' + m' ≤ 12 * y + m + 1 → ¬ (next_month (year y) m ≺ label (year y') m' 1)
  next_from h q = ⊎_elim
      (λ g. not_earlier y (suc m) 1 y' m' (omega arith) i (omega arith) (omega arith) (subst (λ (l : Label). l ≺ label (year y') m' 1) ((next_is y m v).0 g) q))
      (λ g. not_earlier (suc y) 1 1 y' m' (omega arith) i (omega arith) (omega arith) (subst (λ (l : Label). l ≺ label (year y') m' 1) ((next_is y m v).1 g) q))
      (N.lt_or_ge m 12)

-- a day whose label is known, before or from another
module _ {f : ℤ → Label} (up : Rises f) {a k : ℕ} {l n : Label} (e : f (day a) ≡ l) (g : f (day k) ≡ n) where
  known_below : n ≺ l → k < a
  known_below h = unbias_down day_bias (up_back up (subst₂ ◌≺◌ (sym g) (sym e) h))

  known_from : ¬ (n ≺ l) → a ≤ k
  known_from h = ⊎_elim (λ i. absurd (h (subst₂ ◌≺◌ g e (up (day k) (day a) (unbias_up day_bias i))))) (λ i. i) (N.lt_or_ge k a)

abbrev past : (ℕ → Bool) → (ℕ → ℕ) → ℕ → ℕ → ℕ
past leap_at start y m = start y + days_before_value (leap_at y) m + month_length (leap_at y) m

module _ (y m : ℕ) (u : 1 ≤ m) (v : m ≤ 12) where
  pub swedish_past : {a n : ℕ} → SwedishMonth y m a n → labels Swedish (day (a + n)) ≡ next_month (year y) m
  swedish_past (old_month h) =
      let e : label_of julian (day (past J.leap_at J.start y m)) ≡ next_month (year y) m = month_past_lem J.starts y m u v in
      (in_first (past J.leap_at J.start y m) (known_below julian_rises feb_29_1700 e (next_before y m u v 2_147_485_700 2 (omega arith) (omega arith) (omega arith) (omega arith)))).0 ∙ e
  swedish_past (february_1700 e i) = rw (e, i) first_moved
  swedish_past (moved_month h k) =
      let e : label_of julian (day (past J.leap_at J.start y m)) ≡ next_month (year y) m = month_past_lem J.starts y m u v in
      back (J.start y + days_before_value (J.leap_at y) m) (month_length (J.leap_at y) m) (begun y (days_before_value (J.leap_at y) m) (omega arith))
      (known_from julian_rises march_1700 e (next_from y m u v 2_147_485_700 3 (omega arith) (omega arith) (omega arith)))
      (known_below julian_rises march_1712 e (≺-trans (next_before y m u v 2_147_485_712 2 (omega arith) (omega arith) {d' = 2} (omega arith) (omega arith)) (by_month refl (omega arith)))) ∙ e
    where
      one : (a n : ℕ) → 1 ≤ a → a - 1 + n + 1 ≡ a + n
      one a n h = omega arith

      back : (a n : ℕ) → 1 ≤ a → 784_369_151_985 ≤ a + n → a + n < 784_369_156_368 → labels Swedish (day (a - 1 + n)) ≡ label_of julian (day (a + n))
      back a n h i j = (in_moved (a - 1 + n) (omega arith) (omega arith)).0 ∙ ap (λ (i : ℕ). label_of julian (day i)) (one a n h)
  swedish_past (february_1712 e i) = rw (e, i) first_julian_again
  swedish_past (again_month h k) =
      let e : label_of julian (day (past J.leap_at J.start y m)) ≡ next_month (year y) m = month_past_lem J.starts y m u v in
      (in_again (past J.leap_at J.start y m) (known_from julian_rises march_1712 e (next_from y m u v 2_147_485_712 3 (omega arith) (omega arith) (omega arith)))
      (known_below julian_rises feb_18_1753 e (next_before y m u v 2_147_485_753 2 (omega arith) (omega arith) (omega arith) (omega arith)))).0 ∙ e
  swedish_past (february_1753 e i) = rw (e, i) first_gregorian_1753
  swedish_past (new_month h) =
      let e : label_of gregorian (day (past G.leap_at G.start y m)) ≡ next_month (year y) m = month_past_lem G.starts y m u v in
      (in_reformed (past G.leap_at G.start y m) (known_from gregorian_rises march_1753 e (next_from y m u v 2_147_485_753 3 (omega arith) (omega arith) (omega arith)))).0 ∙ e

-- ---- Every month is one of these, and one only
module _ (y m : ℕ) (u : 1 ≤ m) (v : m ≤ 12) where
  pub swedish_month : (a n : ℕ) × SwedishMonth y m a n
  swedish_month = ⊎_elim
      (λ h. (_, _, old_month h))
      (λ h. ⊎_elim
      (λ i. (_, _, february_1700 (omega arith) (omega arith)))
      (λ i. ⊎_elim
      (λ j. (_, _, moved_month i j))
      (λ j. ⊎_elim
      (λ k. (_, _, february_1712 (omega arith) (omega arith)))
      (λ k. ⊎_elim
      (λ l. (_, _, again_month k l))
      (λ l. ⊎_elim
      (λ n. (_, _, february_1753 (omega arith) (omega arith)))
      (λ n. (_, _, new_month n))
      (N.lt_or_ge (12 * y + m) 25_769_829_039))
      (N.lt_or_ge (12 * y + m) 25_769_829_038))
      (N.lt_or_ge (12 * y + m) 25_769_828_547))
      (N.lt_or_ge (12 * y + m) 25_769_828_546))
      (N.lt_or_ge (12 * y + m) 25_769_828_403))
      (N.lt_or_ge (12 * y + m) 25_769_828_402)

  first_label : {a n : ℕ} → 1 ≤ n → SwedishMonth y m a n → labels Swedish (day a) ≡ label (year y) m 1
  first_label {a} h s = ap (λ (k : ℕ). labels Swedish (day k)) (back a) ∙ swedish_day y m u v s 1 (omega arith) h
    where
      back : (a : ℕ) → a ≡ a + 1 - 1
      back a = omega arith

  pub swedish_some : {a n : ℕ} → SwedishMonth y m a n → 1 ≤ n
  swedish_some (old_month h) = month_some (J.leap_at y) m u v
  swedish_some (february_1700 e i) = omega arith
  swedish_some (moved_month h k) = month_some (J.leap_at y) m u v
  swedish_some (february_1712 e i) = omega arith
  swedish_some (again_month h k) = month_some (J.leap_at y) m u v
  swedish_some (february_1753 e i) = omega arith
  swedish_some (new_month h) = month_some (G.leap_at y) m u v

  pub swedish_month_one : {a n b k : ℕ} → SwedishMonth y m a n → SwedishMonth y m b k → (a ≡ b) × (n ≡ k)
  swedish_month_one {a} {n} {b} {k} s t =
      let e : a ≡ b = unbias_injective day_bias a b (once swedish_rises (first_label (swedish_some s) s ∙ sym (first_label (swedish_some t) t))) in
      let f : a + n ≡ b + k = unbias_injective day_bias (a + n) (b + k) (once swedish_rises (swedish_past y m u v s ∙ sym (swedish_past y m u v t))) in
      (e, omega arith)

  -- it begins after the first biased day
  pub swedish_from : {a n : ℕ} → 352 ≤ y → SwedishMonth y m a n → 1 ≤ a
  swedish_from h (old_month g) = begun y (days_before_value (J.leap_at y) m) (omega arith)
  swedish_from h (february_1700 e i) = begun y (days_before_value (J.leap_at y) m) (omega arith)
  swedish_from h (moved_month g k) = less (J.start y) (days_before_value (J.leap_at y) m) (omega arith)
    where
      less : (a b : ℕ) → 2 ≤ a → 1 ≤ a + b - 1
      less a b h = omega arith
  swedish_from h (february_1712 e i) = less (J.start y) (days_before_value (J.leap_at y) m) (omega arith)
    where
      less : (a b : ℕ) → 2 ≤ a → 1 ≤ a + b - 1
      less a b h = omega arith
  swedish_from h (again_month g k) = begun y (days_before_value (J.leap_at y) m) (omega arith)
  swedish_from h (february_1753 e i) = begun y (days_before_value (J.leap_at y) m) (omega arith)
  swedish_from h (new_month g) = more (G.start y) (days_before_value (G.leap_at y) m) (omega arith)
    where
      more : (a b : ℕ) → 1 ≤ a → 1 ≤ a + b
      more a b h = omega arith

-- it ends in time
whole_month : (leap_at : ℕ → Bool) (start : ℕ → ℕ) (y m : ℕ) → 1 ≤ m → m ≤ 12 → start y < 1_600_000_000_000 → past leap_at start y m < 1_600_000_000_367
whole_month leap_at start y m u v h =
    let n : ℕ = month_length (leap_at y) m in
    let b : 1 ≤ n = month_some (leap_at y) m u v in
    let e : number leap_at start y m n < start y + 366 = within_year leap_at start y m n (u, v, b, omega arith) in
    omega arith

module _ (y m : ℕ) (u : 1 ≤ m) (v : m ≤ 12) (h : y < 4_294_967_648) where
  pub swedish_room : {a n : ℕ} → SwedishMonth y m a n → a + n < 2_000_000_000_000
  swedish_room (old_month g) = omega (arith, whole_month J.leap_at J.start y m u v (omega arith))
  swedish_room (february_1700 e i) = rw (e, i) (omega arith)
  swedish_room (moved_month g k) = less (J.start y + days_before_value (J.leap_at y) m) (month_length (J.leap_at y) m) (whole_month J.leap_at J.start y m u v (omega arith))
    where
      less : (a n : ℕ) → a + n < 1_600_000_000_367 → a - 1 + n < 2_000_000_000_000
      less a n h = omega arith
  swedish_room (february_1712 e i) = rw (e, i) (omega arith)
  swedish_room (again_month g k) = omega (arith, whole_month J.leap_at J.start y m u v (omega arith))
  swedish_room (february_1753 e i) = rw (e, i) (omega arith)
  swedish_room (new_month g) = omega (arith, whole_month G.leap_at G.start y m u v (omega arith))

-- ---- The days of a month and of a year, as stretches: places, lengths, which day bears what
module _ (y : ℕ) (h : 352 ≤ y) where
  pub swedish_month_days : (m : ℕ) (u : 1 ≤ m) (v : m ≤ 12) {a n : ℕ} → SwedishMonth y m a n → Stretch (labels Swedish) (OfMonth (year y) m) day_bias a (a + n)
  swedish_month_days m u v s = stretch swedish_rises (timeline_proper (timeline Swedish)) (month_span_lem (year y) m v) day_bias
      (first_at swedish_rises (first_label y m u v (swedish_some y m u v s) s)) (first_at swedish_rises (swedish_past y m u v s)) (swedish_from y m u v h s)

  pub swedish_year_days : {a n b k : ℕ} → SwedishMonth y 1 a n → SwedishMonth (suc y) 1 b k → Stretch (labels Swedish) (OfYear (year y)) day_bias a b
  swedish_year_days s t = stretch swedish_rises (timeline_proper (timeline Swedish)) (year_span (year y)) day_bias
      (first_at swedish_rises (first_label y 1 (omega arith) (omega arith) (swedish_some y 1 (omega arith) (omega arith) s) s))
      (first_at swedish_rises (first_label (suc y) 1 (omega arith) (omega arith) (swedish_some (suc y) 1 (omega arith) (omega arith) t) t ∙ ap (λ (z : ℤ). label z 1 1) (unbias_suc year_bias y)))
      (swedish_from y 1 (omega arith) (omega arith) h s)

  -- the year by its first month and its last
  pub swedish_year : {a n b k : ℕ} → SwedishMonth y 1 a n → SwedishMonth y 12 b k → Stretch (labels Swedish) (OfYear (year y)) day_bias a (b + k)
  swedish_year s t = stretch swedish_rises (timeline_proper (timeline Swedish)) (year_span (year y)) day_bias
      (first_at swedish_rises (first_label y 1 (omega arith) (omega arith) (swedish_some y 1 (omega arith) (omega arith) s) s))
      (first_at swedish_rises (swedish_past y 12 (omega arith) (omega arith) t))
      (swedish_from y 1 (omega arith) (omega arith) h s)

-- ---- Labels that no day bears
module _ (y m : ℕ) (h : 352 ≤ y) (u : 1 ≤ m) (v : m ≤ 12) {a n : ℕ} (s : SwedishMonth y m a n) (d : ℕ) where
  pub swedish_nowhere : (d ≡ 0) ⊎ (n < d) → ¬ Borne (labels Swedish) (label (year y) m d)
  swedish_nowhere off (z, e) =
      let (k, i, from, to) = (swedish_month_days y h m u v s).only z (ap (λ (l : Label). l.year) e, ap (λ (l : Label). l.month) e) in
      let f : label (year y) m (k + 1 - a) ≡ label (year y) m d = sym (swedish_day y m u v s (k + 1 - a) (omega arith) (omega arith)) ∙ ap (λ (j : ℕ). labels Swedish (day j)) (back k from) ∙ ap (labels Swedish) (sym i) ∙ e in
      let g : k + 1 - a ≡ d = ap (λ (l : Label). l.day) f in
      ⊎_elim (λ x. omega arith) (λ x. omega arith) off
    where
      back : (k : ℕ) → a ≤ k → a + (k + 1 - a) - 1 ≡ k
      back k g = omega arith

-- those of February 1753 are Julian
old_1753 : (d : ℕ) → 1 ≤ d → d ≤ 28 → label_of julian (day (784_369_171_314 + d)) ≡ label (pos 1753) 2 d
unfolding month_length
old_1753 d h k = ap (λ (i : ℕ). label_of julian (day i)) (is d h) ∙ numbered J.starts 2_147_485_753 2 d (omega arith, omega arith, h, k)
  where
    is : (d : ℕ) → 1 ≤ d → 784_369_171_314 + d ≡ number J.leap_at J.start 2_147_485_753 2 d
    is d h = omega arith

pub swedish_skips : {l : Label} → SwedishGap l → Skipped Swedish l
swedish_skips in_1700 = record {
  switch = pos 2_342_042;
  switches = this;
  past_last = subst (λ (l : Label). l ≺ label (pos 1700) 2 29) (sym last_before_1700) (by_day refl refl (omega arith));
  before_first = subst (λ (l : Label). label (pos 1700) 2 29 ≺ l) (sym first_moved) (by_month refl (omega arith));
  skippable = inl (_, feb_29_1700);
}
swedish_skips (in_1753 {d} h k) = record {
  switch = pos 2_361_390;
  switches = later (later (later this));
  past_last = subst (λ (l : Label). l ≺ label (pos 1753) 2 d) (sym last_julian_1753) (by_day refl refl h);
  before_first = subst (λ (l : Label). label (pos 1753) 2 d ≺ l) (sym first_gregorian_1753) (by_month refl (omega arith));
  skippable = inl (_, old_1753 d (omega arith) k);
}

-- and no other label: a Julian label between those of two days is that of a day between them
old_between : (a b : ℕ) {l m x : Label} → label_of julian (day a) ≡ l → label_of julian (day b) ≡ m → l ≺ x → x ≺ m → Borne (label_of julian) x → (k : ℕ) × (label_of julian (day k) ≡ x) × (a < k) × (k < b)
old_between a b {x = x} p q h g (n, e) =
    let f : day a <ℤ n = up_back julian_rises (subst₂ ◌≺◌ (sym p) (sym e) h) in
    let i : n <ℤ day b = up_back julian_rises (subst₂ ◌≺◌ (sym e) (sym q) g) in
    let (k, j, u) = biased_from day_bias a n (lt_le f) in
    (k, ap (label_of julian) (sym j) ∙ e, unbias_down day_bias (subst (λ (z : ℤ). day a <ℤ z) j f), unbias_down day_bias (subst (λ (z : ℤ). z <ℤ day b) j i))

feb_28_1700 : label_of julian (day 784_369_151_983) ≡ label (pos 1700) 2 28
unfolding month_length
feb_28_1700 = numbered J.starts 2_147_485_700 2 28 (omega arith, omega arith, omega arith, omega arith)

feb_29_1712 : label_of julian (day 784_369_156_367) ≡ label (pos 1712) 2 29
unfolding month_length
feb_29_1712 = numbered J.starts 2_147_485_712 2 29 (omega arith, omega arith, omega arith, omega arith)

old_march_1753 : label_of julian (day 784_369_171_343) ≡ label (pos 1753) 3 1
unfolding month_length
old_march_1753 = numbered J.starts 2_147_485_753 3 1 (omega arith, omega arith, omega arith, omega arith)

module _ {l : Label} (old : Borne (label_of julian) l) where
  gap_1700 : label (pos 1700) 2 28 ≺ l → l ≺ label (pos 1700) 3 1 → SwedishGap l
  gap_1700 h g =
      let (k, e, u, v) = old_between 784_369_151_983 784_369_151_985 feb_28_1700 march_1700 h g old in
      let i : 784_369_151_984 ≡ k = omega arith in
      subst SwedishGap (sym feb_29_1700 ∙ ap (λ (j : ℕ). label_of julian (day j)) i ∙ e) in_1700

  gap_1712 : label (pos 1712) 2 29 ≺ l → l ≺ label (pos 1712) 3 1 → SwedishGap l
  gap_1712 h g = let (k, e, u, v) = old_between 784_369_156_367 784_369_156_368 feb_29_1712 march_1712 h g old in absurd (none k u v)
    where
      none : (k : ℕ) → 784_369_156_367 < k → k < 784_369_156_368 → ⊥
      none k u v = omega arith

  gap_1753 : label (pos 1753) 2 17 ≺ l → l ≺ label (pos 1753) 3 1 → SwedishGap l
  gap_1753 h g =
      let (k, e, u, v) = old_between 784_369_171_331 784_369_171_343 (old_1753 17 (omega arith) (omega arith)) old_march_1753 h g old in
      let i : 784_369_171_314 + (k - 784_369_171_314) ≡ k = omega arith in
      subst SwedishGap (sym (old_1753 (k - 784_369_171_314) (omega arith) (omega arith)) ∙ ap (λ (j : ℕ). label_of julian (day j)) i ∙ e) (in_1753 (omega arith) (omega arith))

pub swedish_skips_only : {l : Label} → Skipped Swedish l → SwedishGap l
swedish_skips_only {l} s = by s.switches s.past_last s.before_first
  where
    old : Borne (label_of julian) l
    old = skippable_julian s.skippable

    past : (d : ℤ) {m : Label} → labels Swedish d ≡ m → labels Swedish d ≺ l → m ≺ l
    past d e h = subst (λ (x : Label). x ≺ l) e h

    before : (d : ℤ) {m : Label} → labels Swedish d ≡ m → l ≺ labels Swedish d → l ≺ m
    before d e h = subst (λ (x : Label). l ≺ x) e h

    by : {d : ℤ} → SwitchDay (timeline Swedish).switches d → labels Swedish (d -ℤ pos 1) ≺ l → l ≺ labels Swedish d → SwedishGap l
    by this h g = gap_1700 old (past (pos 2_342_041) last_before_1700 h) (before (pos 2_342_042) first_moved g)
    by (later this) h g = gap_1712 old (past (pos 2_346_424) last_moved h) (≺-trans (before (pos 2_346_425) thirtieth g) (by_month refl (omega arith)))
    by (later (later this)) h g = gap_1712 old (≺-trans (by_day refl refl (omega arith)) (past (pos 2_346_425) thirtieth h)) (before (pos 2_346_426) first_julian_again g)
    by (later (later (later this))) h g = gap_1753 old (past (pos 2_361_389) last_julian_1753 h) (before (pos 2_361_390) first_gregorian_1753 g)
    by (later (later (later (later none)))) h g = elim none [ ]

gap_days : {l : Label} → SwedishGap l → ((nat_abs l.year ≡ 1700) × (l.day ≡ 29)) ⊎ ((nat_abs l.year ≡ 1753) × (l.day ≤ 28))
gap_days in_1700 = inl (refl, refl)
gap_days (in_1753 h k) = inr (refl, k)

-- so what no day bears is missing but for these
pub swedish_missing : (y m : ℕ) → 352 ≤ y → 1 ≤ m → m ≤ 12 → {a n : ℕ} → SwedishMonth y m a n → (d : ℕ) → (d ≡ 0) ⊎ (n < d) → ¬ SwedishGap (label (year y) m d) → Missing Swedish (label (year y) m d)
swedish_missing y m h u v s d off none = (swedish_nowhere y m h u v s d off, λ g. none (swedish_skips_only g))

-- ---- Known: 1700 has 365 days, 1712 has 367, 1753 has 354; 30 February 1712 is the 61st day of its year
pub length_1700 : YearLength (labels Swedish) (pos 1700) 365
length_1700 = (swedish_year_days 2_147_485_700 (omega arith) (old_month (omega arith)) (moved_month (omega arith) (omega arith))).days

pub length_1712 : YearLength (labels Swedish) (pos 1712) 367
length_1712 = (swedish_year_days 2_147_485_712 (omega arith) (moved_month (omega arith) (omega arith)) (again_month (omega arith) (omega arith))).days

pub length_1753 : YearLength (labels Swedish) (pos 1753) 354
length_1753 = (swedish_year_days 2_147_485_753 (omega arith) (again_month (omega arith) (omega arith)) (new_month (omega arith))).days

pub ordinal_of_the_thirtieth : Ordinal (labels Swedish) (pos 2_346_425) 61
unfolding splice
ordinal_of_the_thirtieth = ((swedish_year_days 2_147_485_712 (omega arith) (moved_month (omega arith) (omega arith)) (again_month (omega arith) (omega arith))).here 784_369_156_367 refl).2

pub missing_1700 : Missing Swedish (label (pos 1700) 2 30)
missing_1700 = swedish_missing 2_147_485_700 2 (omega arith) (omega arith) (omega arith) (february_1700 refl refl) 30 (inr (omega arith))
    (λ g. ⊎_elim (λ e. omega (arith, e.1)) (λ e. omega (arith, e.0)) (gap_days g))

pub missing_1712 : Missing Swedish (label (pos 1712) 2 31)
missing_1712 = swedish_missing 2_147_485_712 2 (omega arith) (omega arith) (omega arith) (february_1712 refl refl) 31 (inr (omega arith))
    (λ g. ⊎_elim (λ e. omega (arith, e.0)) (λ e. omega (arith, e.0)) (gap_days g))

pub missing_1753 : Missing Swedish (label (pos 1753) 2 29)
missing_1753 = swedish_missing 2_147_485_753 2 (omega arith) (omega arith) (omega arith) (february_1753 refl refl) 29 (inr (omega arith))
    (λ g. ⊎_elim (λ e. omega (arith, e.0)) (λ e. omega (arith, e.1)) (gap_days g))
