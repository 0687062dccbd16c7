-- From a month in one reckoning to the Swedish month, and from there to a year and to a label.
-- Assumes nothing.
use Rattle.std.specs.Prelude.{◌≡◌, refl, Bool, ◌⊎◌, ℕ, ◌+◌, ◌-◌, ◌*◌, ◌<◌, ◌≤◌, ℤ, pos, ◌<ℤ◌, Ok, Err}
use Rattle.std.proofs.Common.{sym, ◌∙◌, ap, subst, subst₂, inl, inr, ⊎_elim, arith}
use Rattle.std.specs.Int.Signed.{<ℤ_irrefl}
use Rattle.whole.specs.Tests as N
use Rattle.whole.specs.Biased.{unbias_back, unbias_injective}
use Rattle.refusals.specs.declared.Refusal.{Refusal}
use Rattle.refusals.specs.Promise.{refusal}
use Rattle.days.specs.DayByDay.{Label, label, Reckoning, label_of, month_length, Month, Swedish, labels, timeline, OfYear, Place, Ordinal, Missing}
use Rattle.days.specs.BiasedDays.{day_bias, year_bias, day, year, BiasedYear}
use Rattle.days.proofs.RisingTimelines.{timeline_proper, timeline_most}
use Rattle.days.proofs.RisingPlaces.{year_falls}
use Rattle.days.proofs.ReckoningSteps.{month_some}
use Rattle.days.specs.ClosedStarts.{Starts, InYear}
use Rattle.days.proofs.ClosedJulian as J
use Rattle.days.proofs.ClosedGregorian as G
use Rattle.days.proofs.ClosedNumbers.{number, numbered, days_before_value, within_year}
use Rattle.days.proofs.ClosedRuns.{top, julian_month_value, gregorian_month, gregorian_past, first_julian, first_gregorian}
use Rattle.days.proofs.Swedish.{swedish_rises}
use Rattle.days.proofs.SwedishMonths.{SwedishMonth, new_month, swedish_month, swedish_day, swedish_from, swedish_room, swedish_year, swedish_missing, swedish_skips, swedish_skips_only, SwedishGap, in_1700, in_1753}
use Rattle.switches.specs.declared.MonthSpan.{MonthSpan}
use Rattle.switches.specs.Promise as S
use Rattle.inner.specs.Natural.{biased_year_value}
use Rattle.monthdays.specs.Promise.{MonthDayAt}
use Rattle.monthdays.specs.Laws.{month_day_in}
use Rattle.swedish.specs.Promise.{MonthIs, YearSpan, label_at, Finds, finds_skipped, finds_missing}
use Rattle.swedish.specs.Private.{Plain, Refuses, in_a_gap, in_none, Labelled}

-- ---- A month in one reckoning
pub plain_is : {r y m : ℕ} {s : MonthSpan} → S.SpansMonth r y m (Ok s) → Plain r y m s.first s.past
plain_is (S.spans_month v) = (refl, refl)

pub refused_none : {r y m : ℕ} {f : Refusal} → S.SpansMonth r y m (Err f) → ¬ Month m
refused_none (S.no_month n) = n

whole_month : (leap_at : ℕ → Bool) (start : ℕ → ℕ) (y m : ℕ) → 1 ≤ m → m ≤ 12 → start y < 1_600_000_000_000 → start y + days_before_value (leap_at y) m + month_length (leap_at y) m < 1_600_000_000_367
whole_month leap_at start y m u v h =
    let n : ℕ = month_length (leap_at y) m in
    let b : 1 ≤ n = month_some (leap_at y) m u v in
    let e : number leap_at start y m n < start y + 366 = within_year leap_at start y m n (u, v, b, omega arith) in
    omega arith

old_room : (y m : ℕ) → Month m → BiasedYear y → julian_month_value y m + month_length (J.leap_at y) m < 1_600_000_000_367
old_room y m v h = whole_month J.leap_at J.start y m v.0 v.1 (omega (arith, h.to))

module _ (y m : ℕ) (v : Month m) (h : BiasedYear y) {a b : ℕ} where
  old_is : Plain top y m a b → (a ≡ julian_month_value y m) × (b ≡ julian_month_value y m + month_length (J.leap_at y) m)
  old_is (e, f) = (
    e ∙ first_julian top (julian_month_value y m) (gregorian_month y m) (less (julian_month_value y m) (month_length (J.leap_at y) m) (old_room y m v h)),
    f ∙ first_julian top (julian_month_value y m + month_length (J.leap_at y) m) (gregorian_month y m + month_length (G.leap_at y) m) (more (julian_month_value y m + month_length (J.leap_at y) m) (old_room y m v h)),
  )
    where
      less : (a n : ℕ) → a + n < 1_600_000_000_367 → a < top
      less a n h = omega arith

      more : (a : ℕ) → a < 1_600_000_000_367 → a < top
      more a h = omega arith

  new_is : Plain 0 y m a b → (a ≡ gregorian_month y m) × (b ≡ gregorian_past y m)
  new_is (e, f) = (
    e ∙ first_gregorian 0 (julian_month_value y m) (gregorian_month y m) (omega arith) (omega arith),
    f ∙ first_gregorian 0 (julian_month_value y m + month_length (J.leap_at y) m) (gregorian_past y m) (omega arith) (omega arith),
  )

  pub old_bounds : Plain top y m a b → (1 ≤ a) × (a ≤ b) × (b < 1_600_000_000_367)
  old_bounds p = let (e, f) = old_is p in sum (days_before_value (J.leap_at y) m) (month_length (J.leap_at y) m) e f (old_room y m v h)
    where
      sum : (d n : ℕ) → a ≡ J.start y + d → b ≡ J.start y + d + n → J.start y + d + n < 1_600_000_000_367 → (1 ≤ a) × (a ≤ b) × (b < 1_600_000_000_367)
      sum d n e f g = (omega (arith, h.from), omega arith, omega arith)

  pub new_days : Plain 0 y m a b → 25_769_829_039 ≤ 12 * y + m → MonthIs y m a b
  new_days p g =
      let (e, f) = new_is p in
      record {
        days = month_length (G.leap_at y) m;
        is_month = subst (λ (k : ℕ). SwedishMonth y m k (month_length (G.leap_at y) m)) (sym e) (new_month g);
        past_is = f ∙ ap (λ (k : ℕ). k + month_length (G.leap_at y) m) (sym e);
      }

  -- as the Julian month; with n days; moved; and moved, with 30 days
  pub old_days : Plain top y m a b → SwedishMonth y m (julian_month_value y m) (month_length (J.leap_at y) m) → MonthIs y m a b
  old_days p s =
      let (e, f) = old_is p in
      record {
        days = month_length (J.leap_at y) m;
        is_month = subst (λ (k : ℕ). SwedishMonth y m k (month_length (J.leap_at y) m)) (sym e) s;
        past_is = f ∙ ap (λ (k : ℕ). k + month_length (J.leap_at y) m) (sym e);
      }

  pub cut_days : (n : ℕ) → Plain top y m a b → SwedishMonth y m (julian_month_value y m) n → MonthIs y m a (a + n)
  cut_days n p s = record { days = n; is_month = subst (λ (k : ℕ). SwedishMonth y m k n) (sym (old_is p).0) s; past_is = refl }

  pub moved_days : Plain top y m a b → SwedishMonth y m (julian_month_value y m - 1) (month_length (J.leap_at y) m) → MonthIs y m (a - 1) (b - 1)
  moved_days p s =
      let (e, f) = old_is p in
      record {
        days = month_length (J.leap_at y) m;
        is_month = subst (λ (k : ℕ). SwedishMonth y m (k - 1) (month_length (J.leap_at y) m)) (sym e) s;
        past_is = sum (month_length (J.leap_at y) m) (f ∙ ap (λ (k : ℕ). k + month_length (J.leap_at y) m) (sym e)) (old_bounds p).0;
      }
    where
      sum : (n : ℕ) → b ≡ a + n → 1 ≤ a → b - 1 ≡ a - 1 + n
      sum n e h = omega arith

  pub leap_days : Plain top y m a b → SwedishMonth y m (julian_month_value y m - 1) 30 → MonthIs y m (a - 1) (a + 29)
  leap_days p s = record { days = 30; is_month = subst (λ (k : ℕ). SwedishMonth y m (k - 1) 30) (sym (old_is p).0) s; past_is = sum (old_bounds p).0 }
    where
      sum : 1 ≤ a → a + 29 ≡ a - 1 + 30
      sum h = omega arith

-- ---- The room of a month
pub month_room : (y m : ℕ) → Month m → BiasedYear y → {a b : ℕ} → MonthIs y m a b → (1 ≤ a) × (a ≤ b) × (b < 2_000_000_000_000)
month_room y m v h {a} {b} s = sum s.days s.past_is (swedish_from y m v.0 v.1 h.from s.is_month) (swedish_room y m v.0 v.1 h.to s.is_month)
  where
    sum : (n : ℕ) → b ≡ a + n → 1 ≤ a → a + n < 2_000_000_000_000 → (1 ≤ a) × (a ≤ b) × (b < 2_000_000_000_000)
    sum n e h g = (omega arith, omega arith, omega arith)

-- ---- A year
pub year_is : (y : ℕ) → BiasedYear y → {a b c d : ℕ} → MonthIs y 1 a b → MonthIs y 12 c d → YearSpan y a d
year_is y h {a} s t = subst (λ (k : ℕ). YearSpan y a k) (sym t.past_is) (swedish_year y h.from s.is_month t.is_month)

-- ---- The place in its year of a day whose label is known
module _ (y : ℕ) (h : BiasedYear y) (k : ℕ) {m d : ℕ} (e : labels Swedish (day k) ≡ label (year y) m d) {c b : ℕ} (j : MonthIs y 1 c b) where
  of_year_lem : OfYear (year y) (labels Swedish (day k))
  of_year_lem = ap (λ (l : Label). l.year) e

  the_year : (i : ℕ) × YearSpan y c i
  the_year = let (i, n, t) = swedish_month y 12 (omega arith) (omega arith) in (i + n, swedish_year y h.from j.is_month t)

  -- the days of a year are few
  few_days : k < c + 400
  few_days = ⊎_elim (λ i. i) (λ i. absurd (never i (the_year.1.here k of_year_lem).1)) (N.lt_or_ge k (c + 400))
    where
      never : c + 400 ≤ k → k < the_year.0 → ⊥
      never i u =
          let q : OfYear (year y) (labels Swedish (day (k - 400))) = the_year.1.inside (k - 400) (omega arith) (omega arith) in
          <ℤ_irrefl (subst₂ ◌<ℤ◌ (ap (λ (z : ℤ). (labels Swedish z).year) (unbias_back day_bias k 400 (omega arith)) ∙ q) of_year_lem
          (year_falls swedish_rises (timeline_proper (timeline Swedish)) (timeline_most (timeline Swedish)) (day k)))

  pub in_year : Ordinal (labels Swedish) (day k) (k + 1 - c) × (c ≤ k) × (k < c + 400)
  in_year =
      let p = the_year.1.here k of_year_lem in
      (subst (λ (l : Label). Place (λ n. OfYear l.year (labels Swedish n)) (day k) (k + 1 - c)) (sym e) p.2, p.0, few_days)

-- ---- A label
module _ (y m d : ℕ) (h : BiasedYear y) (v : Month m) {a b : ℕ} (s : MonthIs y m a b) (f : 1 ≤ d) where
  -- of a day of the month
  pub on_day : a + d - 1 < b → labels Swedish (day (a + d - 1)) ≡ label (year y) m d
  on_day g = swedish_day y m v.0 v.1 s.is_month d f (small s.past_is)
    where
      small : {n : ℕ} → b ≡ a + n → d ≤ n
      small e = omega arith

  -- of none
  pub off_days : b ≤ a + d - 1 → ¬ SwedishGap (label (year y) m d) → Missing Swedish (label (year y) m d)
  off_days g none = swedish_missing y m h.from v.0 v.1 s.is_month d (inr (large s.past_is)) none
    where
      large : {n : ℕ} → b ≡ a + n → n < d
      large e = omega arith

pub refused_row : (y m d n : ℕ) → BiasedYear (biased_year_value y) → Month m → {a b : ℕ} → MonthIs (biased_year_value y) m a b → 1 ≤ d → b ≤ a + d - 1 → Refuses (biased_year_value y) m d n → Finds y m d (Err (refusal n 0 (pos d)))
refused_row y m d n h v s f g (in_a_gap p) = finds_skipped (swedish_skips p)
refused_row y m d n h v s f g (in_none x) = finds_missing (off_days (biased_year_value y) m d h v s f g x)

-- a label with no such month, or of day 0
pub no_month_row : (y m d : ℕ) → ¬ Month m → Finds y m d (Err (refusal 4 0 (pos d)))
no_month_row y m d x = finds_missing (
  λ (n, e). let p = subst (λ (l : Label). Month l.month) e ((timeline_proper (timeline Swedish) n).0, (timeline_proper (timeline Swedish) n).1) in x p,
  λ s. x (gap_month (swedish_skips_only s)),
)
  where
    gap_month : {l : Label} → SwedishGap l → Month l.month
    gap_month in_1700 = (omega arith, omega arith)
    gap_month (in_1753 h k) = (omega arith, omega arith)

pub no_day_row : (y m d : ℕ) → d < 1 → Finds y m d (Err (refusal 4 0 (pos d)))
no_day_row y m d h = finds_missing (
  λ (n, e). omega (arith, (timeline_proper (timeline Swedish) n).2, ap (λ (l : Label). l.day) e),
  λ s. never (swedish_skips_only s),
)
  where
    gap_day : {l : Label} → SwedishGap l → 1 ≤ l.day
    gap_day in_1700 = omega arith
    gap_day (in_1753 h k) = omega arith

    never : SwedishGap (label_at y m d) → ⊥
    never g = omega (arith, gap_day g)

-- ---- Which labels are in a gap
gap_is : {l : Label} → SwedishGap l → (l.month ≡ 2) × (((l.year ≡ year 2_147_485_700) × (l.day ≡ 29)) ⊎ ((l.year ≡ year 2_147_485_753) × (17 < l.day) × (l.day ≤ 28)))
gap_is in_1700 = (refl, inl (refl, refl))
gap_is (in_1753 h k) = (refl, inr (refl, h, k))

module _ (y m d : ℕ) where
  pub no_gap : (m ≡ 2 → y ≡ 2_147_485_700 → d ≡ 29 → ⊥) → (m ≡ 2 → y ≡ 2_147_485_753 → 17 < d → d ≤ 28 → ⊥) → Refuses y m d 4
  no_gap p q = in_none (λ g. let (i, j) = gap_is g in ⊎_elim
      (λ (e, f). p i (unbias_injective year_bias y 2_147_485_700 e) f)
      (λ (e, f, k). q i (unbias_injective year_bias y 2_147_485_753 e) f k) j)

  pub gap_1700 : m ≡ 2 → y ≡ 2_147_485_700 → d ≡ 29 → Refuses y m d 5
  gap_1700 e f g = rw (e, f, g) (in_a_gap in_1700)

  pub gap_1753 : m ≡ 2 → y ≡ 2_147_485_753 → 17 < d → d ≤ 28 → Refuses y m d 5
  gap_1753 e f g h = rw (e, f) (in_a_gap (in_1753 g h))

-- ---- The label of a day, by its year and its place there
pub spot_label : {c : Reckoning} {leap_at : ℕ → Bool} {start : ℕ → ℕ} → Starts c leap_at start → (k y o m d : ℕ) → InYear leap_at start k y o → MonthDayAt (leap_at y) o m d → label_of c (day k) ≡ label (year y) m d
spot_label {c} {leap_at} {start} s k y o m d p q =
    let (v, f, t) = month_day_in p.from p.to q in
    ap (λ (n : ℕ). label_of c (day n)) (sum (start y) (days_before_value (leap_at y) m) q.day_is p.adds f) ∙ numbered s y m d (v.0, v.1, f, t)
  where
    sum : (s b : ℕ) → b + d ≡ o → s + o ≡ k + 1 → 1 ≤ d → k ≡ s + b + d - 1
    sum s b e f h = omega arith

pub labelled_by : {c : Reckoning} {leap_at : ℕ → Bool} {start : ℕ → ℕ} → Starts c leap_at start → (k i y o : ℕ) {b : Bool} → labels Swedish (day k) ≡ label_of c (day i) → InYear leap_at start i (biased_year_value y) o → b ≡ leap_at (biased_year_value y) → Labelled k y o b
labelled_by s k i y o e p f = record { from = p.from; label_at_lem = λ m d q. e ∙ spot_label s i (biased_year_value y) o m d p (subst (λ (b : Bool). MonthDayAt b o m d) f q) }
