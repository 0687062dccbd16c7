-- An accepted calendar as two runs of days that are biased as naturals: Julian below day r, Gregorian from it on. The Julian calendar has its r
-- above every such day, the Gregorian one below: so what is said here is said once for these three kinds, and a calendar has one r. From it:
-- which day bears a label, which labels are skipped, and the days of a year and of a month.
-- Assumes nothing.
use Rattle.std.specs.Prelude.{◌≡◌, refl, Bool, ℕ, ◌+◌, ◌-◌, ◌<◌, ◌≤◌, ℤ, pos, ◌-ℤ◌}
use Rattle.std.proofs.Common.{sym, ◌∙◌, ap, subst, subst₂, inl, inr, ⊎_elim, arith, add-one, le_refl, le_of_lt, lt_of_le_of_lt, lt_of_lt_of_le, lt-ltb, le-ltb}
use Rattle.std.proofs.Math.IntN.{suc_ℤ}
use Rattle.whole.specs.Tests as N
use Rattle.whole.specs.Biased.{unbias_suc, unbias_back, unbias_injective}
use Rattle.whole.specs.Integers.{unbias_up, unbias_down, unbias_le}
use Rattle.days.specs.DayByDay.{Label, label, Reckoning, label_of, julian, gregorian, month_length, ◌≺◌, by_day, Calendar, Julian, Gregorian, Reforming, labels, JulianStyle, GregorianStyle, Rises, Borne, OfYear, OfMonth, Place, Ordinal, DayOrdinal, julian_accepted, gregorian_accepted, reforming_accepted, AcceptedReformation, SwitchDay, this, later, Skipped, timeline}
use Rattle.days.proofs.LabelOrder.{≺-irrefl, ≺-trans}
use Rattle.days.proofs.RisingLabels.{up_back, no_earlier, once}
use Rattle.days.proofs.RisingSpans.{Span, First, first_by, Stretch, stretch, year_span, month_span_lem, next_month}
use Rattle.days.proofs.ReckoningSteps.{month_some}
use Rattle.days.specs.BiasedDays.{day_bias, year_bias, day, year, BiasedYear}
use Rattle.days.proofs.ClosedYear.{year_length, year_most}
use Rattle.days.proofs.ClosedStarts.{Starts, start_right}
use Rattle.days.proofs.ClosedJulian as J
use Rattle.days.proofs.ClosedGregorian as G
use Rattle.days.proofs.ClosedNumbers.{There, number, numbered, there, days_before_value, within_year, month_first, month_past_lem}
use Rattle.days.proofs.ReckoningLabels.{julian_rises, gregorian_rises}
use Rattle.days.proofs.AcceptedCalendars.{reforming_below, reforming_from, reforming_either, accepted_rises, labels_proper, no_switch}
use Rattle.days.proofs.ReformationTable.{fits_only}
pub use Rattle.days.specs.ClosedRuns.{top, Runs, julian_month_value, gregorian_month, gregorian_past, ComesBefore, day_before, month_over, first_day_value, year_first, month_first_value, month_past}

-- ---- the three kinds
never_below : (k r : ℕ) → r ≤ k → k < r → ⊥
never_below k r h g = omega arith

pub julian_runs : Runs Julian top
julian_runs = record {
  accepted = julian_accepted;
  below = λ k h t. (refl, refl);
  above = λ k h t. absurd (never_below k top h t);
  either = λ n. inl refl;
  switches = λ h t. absurd (never_below top top (omega arith) t);
  reforms = λ h t. absurd (never_below top top (omega arith) t);
  no_other = λ d s. absurd (no_switch s);
  most = le_refl top;
}

pub gregorian_runs : Runs Gregorian 0
gregorian_runs = record {
  accepted = gregorian_accepted;
  below = λ k h t. absurd (never_below k 0 (omega arith) h);
  above = λ k h t. (refl, refl);
  either = λ n. inr refl;
  switches = λ h t. absurd (never_below 0 1 h (omega arith));
  reforms = λ h t. absurd (never_below 0 1 h (omega arith));
  no_other = λ d s. absurd (no_switch s);
  most = omega arith;
}

pub reforming_runs : (r : ℕ) → AcceptedReformation (day r) → Runs (Reforming (day r)) r
reforming_runs r a = record {
  accepted = reforming_accepted a;
  below = λ k h t. reforming_below (day r) (unbias_up day_bias h);
  above = λ k h t. reforming_from (day r) (unbias_le day_bias r k h);
  either = reforming_either (day r);
  switches = λ h t. this;
  reforms = λ h t. a;
  no_other = only;
  most = omega (arith, fits_only r a.julian_day_fits);
}
  where
    only : (d : ℤ) → SwitchDay (timeline (Reforming (day r))).switches d → d ≡ day r
    only d this = refl
    only d (later s) = absurd (no_switch s)

-- ---- a calendar has one r

-- between two of them the days would be of both styles
not_sooner : {c : Calendar} {r s : ℕ} → Runs c r → Runs c s → ¬ (r < s)
not_sooner {r = r} {s} p q h =
    let t : r < top = lt_of_lt_of_le h q.most in
    let e : JulianStyle ≡ GregorianStyle = sym (q.below r h t).1 ∙ (p.above r (le_refl r) t).1 in
    let z : ◌≡◌ {A = ℕ} 0 1 = cc in omega arith

pub runs_one : {c : Calendar} {r s : ℕ} → Runs c r → Runs c s → r ≡ s
runs_one {r = r} {s} p q = ⊎_elim (λ h. absurd (not_sooner p q h)) (λ h. ⊎_elim (λ k. absurd (not_sooner q p k)) (λ k. omega arith) (N.lt_or_ge s r)) (N.lt_or_ge r s)

-- the day before r is before what is not before r
before_one : (r n : ℕ) → 1 ≤ r → r ≤ n → r - 1 < n
before_one r n h k = omega arith

above_some : {g r : ℕ} → g < r → 1 ≤ r
above_some h = omega arith

-- ---- months

before_some : {r y m d : ℕ} → There J.leap_at y m d → ComesBefore r y m d → 1 ≤ r
before_some t (day_before u h) = above_some h
before_some {r} {y} {m} t (month_over h) = some (gregorian_month y m) (month_some (G.leap_at y) m t.0 t.1) h
  where
    some : (a : ℕ) {n : ℕ} → 1 ≤ n → a + n ≤ r → 1 ≤ r
    some a g h = omega arith

-- the last day of a month that is not over by r is not before r, and so its label is not before that of r: a later label of the month, which the
-- Julian calendar alone has, does not come before it either
module _ (r y m : ℕ) where
  last_from : r < gregorian_past y m → r ≤ number G.leap_at G.start y m (month_length (G.leap_at y) m)
  last_from h = back (gregorian_month y m) (month_length (G.leap_at y) m) h
    where
      back : (a n : ℕ) → r < a + n → r ≤ a + n - 1
      back a n h = omega arith

  last_there : {d : ℕ} → There J.leap_at y m d → There G.leap_at y m (month_length (G.leap_at y) m)
  last_there (u, v, w, t) = (u, v, month_some (G.leap_at y) m u v, le_refl (month_length (G.leap_at y) m))

  month_top : BiasedYear y → {d : ℕ} → There J.leap_at y m d → r < gregorian_past y m → r < top
  month_top within t h = omega (arith, last_from h, within_year G.leap_at G.start y m (month_length (G.leap_at y) m) (last_there t), within.to)

  not_before : (d : ℕ) {z : ℤ} → year y ≡ z → There J.leap_at y m d → ¬ There G.leap_at y m d → r < gregorian_past y m → ¬ (label z m d ≺ label_of gregorian (day r))
  not_before d {z} i t n h b = ≺-irrefl (≺-trans (no_earlier gregorian_rises (unbias_le day_bias r (number G.leap_at G.start y m (month_length (G.leap_at y) m)) (last_from h)) b)
      (subst (λ (x : Label). x ≺ label z m d) (sym (numbered G.starts y m (month_length (G.leap_at y) m) (last_there t) ∙ ap (λ (z : ℤ). label z m (month_length (G.leap_at y) m)) i)) (by_day refl refl longer)))
    where
      longer : month_length (G.leap_at y) m < d
      longer = ⊎_elim (λ k. k) (λ k. absurd (n (t.0, t.1, t.2, k))) (N.lt_or_ge (month_length (G.leap_at y) m) d)

-- ---- which day bears a label
module _ {c : Calendar} {r : ℕ} (runs : Runs c r) where
  -- each Julian day of l is from r on, each Gregorian day of it is before r
  abbrev Late : Label → Type 0
  Late l = (n : ℤ) → label_of julian n ≡ l → (k : ℕ) × (n ≡ day k) × (r ≤ k) × (k < top)

  abbrev Early : Label → Type 0
  Early l = (n : ℤ) → label_of gregorian n ≡ l → (k : ℕ) × (n ≡ day k) × (k < r) × (k < top)

  -- then no day bears l
  nowhere_by : {l : Label} → Late l → Early l → ¬ Borne (labels c) l
  nowhere_by late early (n, e) = ⊎_elim
      (λ q. let (k, d, h, t) = late n (sym q ∙ e) in
      let (i, f, g, u) = early (day k) (sym (runs.above k h t).0 ∙ ap (labels c) (sym d) ∙ e) in never k i (unbias_injective day_bias k i f) h g)
      (λ q. let (k, d, h, t) = early n (sym q ∙ e) in
      let (i, f, g, u) = late (day k) (sym (runs.below k h t).0 ∙ ap (labels c) (sym d) ∙ e) in never i k (sym (unbias_injective day_bias k i f)) g h)
      (runs.either n)
    where
      never : (k i : ℕ) → k ≡ i → r ≤ k → i < r → ⊥
      never k i e h g = omega arith

  -- a label is not on both sides
  pub one_side : {l : Label} (j g : ℕ) → label_of julian (day j) ≡ l → j < r → j < top → label_of gregorian (day g) ≡ l → r ≤ g → g < top → ⊥
  one_side j g p h t q k u =
      let e : j ≡ g = unbias_injective day_bias j g (once (accepted_rises runs.accepted) ((runs.below j h t).0 ∙ p ∙ sym ((runs.above g k u).0 ∙ q))) in
      never e
    where
      never : j ≡ g → ⊥
      never e = omega arith

  -- the rows of a label of a month m of a biased year y
  module _ {z : ℤ} (y m d : ℕ) (i : year y ≡ z) (within : BiasedYear y) where
    abbrev l : Label
    l = label z m d

    in_old : There J.leap_at y m d → label_of julian (day (number J.leap_at J.start y m d)) ≡ l
    in_old t = numbered J.starts y m d t ∙ ap (λ (z : ℤ). label z m d) i

    in_new : There G.leap_at y m d → label_of gregorian (day (number G.leap_at G.start y m d)) ≡ l
    in_new t = numbered G.starts y m d t ∙ ap (λ (z : ℤ). label z m d) i

    pub old_top : There J.leap_at y m d → number J.leap_at J.start y m d < top
    old_top t = omega (arith, within_year J.leap_at J.start y m d t, within.to)

    pub new_top : There G.leap_at y m d → number G.leap_at G.start y m d < top
    new_top t = omega (arith, within_year G.leap_at G.start y m d t, within.to)

    pub on_old : There J.leap_at y m d → number J.leap_at J.start y m d < r → labels c (day (number J.leap_at J.start y m d)) ≡ l
    on_old t h = (runs.below (number J.leap_at J.start y m d) h (old_top t)).0 ∙ in_old t

    pub on_new : There G.leap_at y m d → r ≤ number G.leap_at G.start y m d → labels c (day (number G.leap_at G.start y m d)) ≡ l
    on_new t h = (runs.above (number G.leap_at G.start y m d) h (new_top t)).0 ∙ in_new t

    not_new : ¬ There G.leap_at y m d → ¬ Borne (label_of gregorian) l
    not_new n b = n (there G.starts y m d (b.0, b.1 ∙ sym (ap (λ (z : ℤ). label z m d) i)))

    from_old : Borne (label_of julian) l → There J.leap_at y m d
    from_old b = there J.starts y m d (b.0, b.1 ∙ sym (ap (λ (z : ℤ). label z m d) i))

    comes_before : There J.leap_at y m d → ComesBefore r y m d → l ≺ label_of gregorian (day r)
    comes_before t (day_before u h) = subst (λ (x : Label). x ≺ label_of gregorian (day r)) (in_new u) (gregorian_rises (day (number G.leap_at G.start y m d)) (day r) (unbias_up day_bias h))
    comes_before (u, v, w, t) (month_over h) = no_earlier gregorian_rises (unbias_le day_bias (gregorian_past y m) r h)
        (subst (λ (x : Label). l ≺ x) (sym (month_past_lem G.starts y m u v ∙ ap (λ (z : ℤ). next_month z m) i)) ((month_span_lem z m v).inside l (u, v, w) (refl, refl)).1)

    -- from r on in the Julian calendar, and before the label of r in the Gregorian one: skipped
    pub in_gap : There J.leap_at y m d → r ≤ number J.leap_at J.start y m d → ComesBefore r y m d → Skipped c l
    in_gap t h b =
        let j : ℕ = number J.leap_at J.start y m d in
        let o : 1 ≤ r = before_some t b in
        let s : r < top = lt_of_le_of_lt h (old_top t) in
        let p : r - 1 < r = before_one r r o (le_refl r) in
        record {
          switch = day r;
          switches = runs.switches o s;
          past_last = subst₂ (λ (n : ℤ) (x : Label). labels c n ≺ x) (sym (unbias_back day_bias r 1 o)) (in_old t)
              (subst (λ (x : Label). x ≺ label_of julian (day j)) (sym (runs.below (r - 1) p (before_one r top o (le_of_lt s))).0)
              (julian_rises (day (r - 1)) (day j) (unbias_up day_bias (before_one r j o h))));
          before_first = subst (λ (x : Label). l ≺ x) (sym (runs.above r (le_refl r) s).0) (comes_before t b);
          skippable = inl (day j, in_old t);
        }

    -- on no day of the Gregorian calendar, and on none of the Julian one, or on one from r on and in a month that is not over by r: on no day,
    -- and not skipped
    pub on_none : ¬ There G.leap_at y m d → (There J.leap_at y m d → r ≤ number J.leap_at J.start y m d) → (There J.leap_at y m d → r < gregorian_past y m) → (¬ Borne (labels c) l) × (¬ Skipped c l)
    on_none n h g = (
      nowhere_by late (λ z e. absurd (not_new n (z, e))),
      λ s. ⊎_elim (λ b. not_first (from_old b) s) (not_new n) s.skippable,
    )
      where
        late : Late l
        late z e = let t : There J.leap_at y m d = from_old (z, e) in (number J.leap_at J.start y m d, once julian_rises (e ∙ sym (in_old t)), h t, old_top t)

        not_first : There J.leap_at y m d → ¬ Skipped c l
        not_first t s =
            let e : labels c s.switch ≡ label_of gregorian (day r) = ap (labels c) (runs.no_other s.switch s.switches) ∙ (runs.above r (le_refl r) (month_top r y m within t (g t))).0 in
            not_before r y m d i t n (g t) (subst (λ (x : Label). l ≺ x) e s.before_first)

-- ---- the first day of a year or a month

pub first_julian : (r j g : ℕ) → j < r → first_day_value r j g ≡ j
first_julian r j g h = simp (lt-ltb j r h)

pub first_gregorian : (r j g : ℕ) → r ≤ j → r ≤ g → first_day_value r j g ≡ g
first_gregorian r j g h k = simp (le-ltb j r h, le-ltb g r k)

pub first_reform : (r j g : ℕ) → r ≤ j → g < r → first_day_value r j g ≡ r
first_reform r j g h k = simp (le-ltb j r h, lt-ltb g r k)

-- the three cases of it
pub first_cases : {A : Type 0} (r j g : ℕ) → (j < r → first_day_value r j g ≡ j → A) → (r ≤ j → r ≤ g → first_day_value r j g ≡ g → A) → (r ≤ j → g < r → first_day_value r j g ≡ r → A) → A
first_cases r j g a b c = ⊎_elim (λ h. a h (first_julian r j g h))
    (λ h. ⊎_elim (λ k. c h k (first_reform r j g h k)) (λ k. b h k (first_gregorian r j g h k)) (N.lt_or_ge g r)) (N.lt_or_ge j r)

module _ {c : Calendar} {r : ℕ} (runs : Runs c r) (j g : ℕ) {l : Label} (old : label_of julian (day j) ≡ l) (new : label_of gregorian (day g) ≡ l)
    (j_some : 1 ≤ j) (j_room : j < top) (g_some : 1 ≤ g) (g_room : g < top) where
  up : Rises (labels c)
  up = accepted_rises runs.accepted

  old_before : (k : ℕ) → k < r → k < j → labels c (day k) ≺ l
  old_before k h i = subst₂ ◌≺◌ (sym (runs.below k h (omega arith)).0) old (julian_rises (day k) (day j) (unbias_up day_bias i))

  new_before : (k : ℕ) → r ≤ k → k < g → labels c (day k) ≺ l
  new_before k h i = subst₂ ◌≺◌ (sym (runs.above k h (omega arith)).0) new (gregorian_rises (day k) (day g) (unbias_up day_bias i))

  old_not : j < r → ¬ (labels c (day j) ≺ l)
  old_not h q = absurd (never (unbias_down day_bias (up_back up (subst (λ (m : Label). labels c (day j) ≺ m) (sym ((runs.below j h j_room).0 ∙ old)) q))))
    where
      never : j < j → ⊥
      never i = omega arith

  new_not : (k : ℕ) → r ≤ k → g ≤ k → k < top → ¬ (labels c (day k) ≺ l)
  new_not k h i t q = never (unbias_down day_bias (up_back gregorian_rises (subst₂ ◌≺◌ (runs.above k h t).0 (sym new) q)))
    where
      never : k < g → ⊥
      never u = omega arith

  step_back : (a : ℕ) → 1 ≤ a → labels c (day (a - 1)) ≺ l → labels c (day a -ℤ pos 1) ≺ l
  step_back a h q = subst (λ (n : ℤ). labels c n ≺ l) (sym (unbias_back day_bias a 1 h)) q

  pub first_runs : First (labels c) l (day (first_day_value r j g))
  first_runs = first_cases r j g
      (λ h e. at e (first_by up (step_back j j_some (old_before (j - 1) (omega arith) (omega arith))) (old_not h)))
      (λ h k e. at e (first_by up (step_back g g_some (before_new h k)) (new_not g k (omega arith) g_room)))
      (λ h k e. at e (first_by up (step_back r (omega arith) (old_before (r - 1) (omega arith) (omega arith))) (new_not r (omega arith) (omega arith) (omega arith))))
    where
      at : {a : ℕ} → first_day_value r j g ≡ a → First (labels c) l (day a) → First (labels c) l (day (first_day_value r j g))
      at e p = subst (λ (n : ℕ). First (labels c) l (day n)) (sym e) p

      before_new : r ≤ j → r ≤ g → labels c (day (g - 1)) ≺ l
      before_new h k = ⊎_elim (λ i. old_before (g - 1) i (omega arith)) (λ i. new_before (g - 1) i (omega arith)) (N.lt_or_ge (g - 1) r)

  pub first_some : 1 ≤ first_day_value r j g
  first_some = first_cases r j g (λ h e. omega arith) (λ h k e. omega arith) (λ h k e. omega arith)

  pub first_room : first_day_value r j g < top
  first_room = first_cases r j g (λ h e. omega arith) (λ h k e. omega arith) (λ h k e. omega arith)

  -- a label that is on a Gregorian day from r on is on no Julian day below r
  pub first_plain : r ≤ g → first_day_value r j g ≡ g
  first_plain h = ⊎_elim (λ k. absurd (one_side runs j g old k j_room new h g_room)) (λ k. first_gregorian r j g k h) (N.lt_or_ge j r)

-- in one reckoning the label l is on day k, and m on day k', at most a year later
record Begin (c : Reckoning) (l m : Label) (k k' : ℕ) : Type 0 where
  at : label_of c (day k) ≡ l
  past : label_of c (day k') ≡ m
  some : 1 ≤ k
  later : k ≤ k'
  within : k' ≤ k + 366
  room : k' < top

module _ {c : Reckoning} {leap_at : ℕ → Bool} {start : ℕ → ℕ} (s : Starts c leap_at start) (y : ℕ) (some : 1 ≤ start y) (room : start y + 366 < top) where
  year_begin : Begin c (label (year y) 1 1) (label (suc_ℤ (year y)) 1 1) (start y) (start (y + 1))
  year_begin =
      let n : start (y + 1) ≡ start y + year_length (leap_at y) = ap start (add-one y) ∙ s.start_next y in
      let h : year_length (leap_at y) ≤ 366 = year_most (leap_at y) in
      record {
        at = start_right s y;
        past = start_right s (y + 1) ∙ ap (λ (z : ℤ). label z 1 1) (ap year (add-one y) ∙ unbias_suc year_bias y);
        some = some;
        later = omega arith;
        within = omega arith;
        room = omega arith;
      }

  month_begin : (m : ℕ) → 1 ≤ m → m ≤ 12
      → Begin c (label (year y) m 1) (next_month (year y) m) (start y + days_before_value (leap_at y) m) (start y + days_before_value (leap_at y) m + month_length (leap_at y) m)
  month_begin m h k =
      let n : ℕ = month_length (leap_at y) m in
      let b : 1 ≤ n = month_some (leap_at y) m h k in
      let e : number leap_at start y m n < start y + 366 = within_year leap_at start y m n (h, k, b, omega arith) in
      record {
        at = month_first s y m h k;
        past = month_past_lem s y m h k;
        some = omega arith;
        later = omega arith;
        within = omega arith;
        room = omega arith;
      }

-- the days of a year, and of a month
module _ {c : Calendar} {r : ℕ} (runs : Runs c r) where
  stretch_by : {P : Label → Type 0} {l m : Label} {j g j' g' : ℕ} → Span P l m → Begin julian l m j j' → Begin gregorian l m g g'
      → Stretch (labels c) P day_bias (first_day_value r j g) (first_day_value r j' g')
  stretch_by {l = l} {m} {j} {g} {j'} {g'} span p q = stretch (accepted_rises runs.accepted) (labels_proper c) span day_bias
      (first_runs runs j g p.at q.at p.some j_room q.some g_room)
      (first_runs runs j' g' p.past q.past (omega (arith, p.some, p.later)) p.room (omega (arith, q.some, q.later)) q.room)
      (first_some runs j g p.at q.at p.some j_room q.some g_room)
    where
      j_room : j < top
      j_room = omega (arith, p.room, p.later)

      g_room : g < top
      g_room = omega (arith, q.room, q.later)

  module _ (y : ℕ) (h : BiasedYear y) where
    old_year : Begin julian (label (year y) 1 1) (label (suc_ℤ (year y)) 1 1) (J.start y) (J.start (y + 1))
    old_year = year_begin J.starts y (omega (arith, h.from)) (omega (arith, h.to))

    new_year : Begin gregorian (label (year y) 1 1) (label (suc_ℤ (year y)) 1 1) (G.start y) (G.start (y + 1))
    new_year = year_begin G.starts y (omega (arith, h.from)) (omega (arith, h.to))

    pub year_stretch : Stretch (labels c) (OfYear (year y)) day_bias (year_first r y) (year_first r (y + 1))
    year_stretch = stretch_by (year_span (year y)) old_year new_year

    pub year_plain : r ≤ G.start y → year_first r y ≡ G.start y
    year_plain k = first_plain runs (J.start y) (G.start y) old_year.at new_year.at old_year.some (omega (arith, old_year.room, old_year.later)) new_year.some
        (omega (arith, new_year.room, new_year.later)) k

    module _ (m : ℕ) (u : 1 ≤ m) (v : m ≤ 12) where
      old_month : Begin julian (label (year y) m 1) (next_month (year y) m) (julian_month_value y m) (julian_month_value y m + month_length (J.leap_at y) m)
      old_month = month_begin J.starts y (omega (arith, h.from)) (omega (arith, h.to)) m u v

      new_month : Begin gregorian (label (year y) m 1) (next_month (year y) m) (gregorian_month y m) (gregorian_month y m + month_length (G.leap_at y) m)
      new_month = month_begin G.starts y (omega (arith, h.from)) (omega (arith, h.to)) m u v

      pub month_stretch : Stretch (labels c) (OfMonth (year y) m) day_bias (month_first_value r y m) (month_past r y m)
      month_stretch = stretch_by (month_span_lem (year y) m v) old_month new_month

      pub month_plain : r ≤ gregorian_month y m → month_first_value r y m ≡ gregorian_month y m
      month_plain k = first_plain runs (julian_month_value y m) (gregorian_month y m) old_month.at new_month.at old_month.some (omega (arith, old_month.room, old_month.later))
          new_month.some (omega (arith, new_month.room, new_month.later)) k

-- the places of a day whose label is known
module _ {c : Calendar} {r : ℕ} (runs : Runs c r) (k y m d : ℕ) (h : BiasedYear y) (e : labels c (day k) ≡ label (year y) m d) where
  pub ordinal_at : Ordinal (labels c) (day k) (k + 1 - year_first r y)
  ordinal_at = subst (λ (l : Label). Place (λ n. OfYear l.year (labels c n)) (day k) (k + 1 - year_first r y)) (sym e)
      ((year_stretch runs y h).here k (ap (λ (l : Label). l.year) e)).2

  pub day_ordinal_at : 1 ≤ m → m ≤ 12 → DayOrdinal (labels c) (day k) (k + 1 - month_first_value r y m)
  day_ordinal_at u v = subst (λ (l : Label). Place (λ n. OfMonth l.year l.month (labels c n)) (day k) (k + 1 - month_first_value r y m)) (sym e)
      ((month_stretch runs y h m u v).here k (ap (λ (l : Label). l.year) e, ap (λ (l : Label). l.month) e)).2
