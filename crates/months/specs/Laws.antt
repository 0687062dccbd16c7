-- From what the private functions say to the promises.
-- Assumes nothing.
use Rattle.std.specs.Prelude.{◌≡◌, refl, Bool, ◌⊎◌, ℕ, ◌+◌, ◌-◌, ◌<◌, ◌≤◌, ◌^◌, ℤ, ◌≤ℤ◌, Result, Ok, Err}
use Rattle.std.specs.Result.{is_ok}
use Rattle.std.proofs.Common.{sym, ◌∙◌, ap, subst, subst₂, inl, inr, ⊎_elim, arith, add-one, lt-ltb, le-ltb}
use Rattle.whole.specs.Tests.{lt_or_ge}
use Rattle.whole.specs.Integers.{unbias_le}
use Rattle.days.specs.DayByDay.{Label, label, Reckoning, label_of, julian, gregorian, OfYear, OfMonth, Place, month_length, Month}
use Rattle.days.proofs.RisingLabels.{once, days_one}
use Rattle.days.specs.BiasedDays.{day_bias, day, year, BiasedYear}
use Rattle.days.proofs.ClosedYear.{year_length, year_most}
use Rattle.days.specs.RisingSpans.{Stretch}
use Rattle.days.specs.ClosedStarts.{Starts}
use Rattle.days.proofs.ClosedJulian as J
use Rattle.days.proofs.ClosedGregorian as G
use Rattle.days.proofs.ClosedNumbers.{There, number, days_before_value, few_before}
use Rattle.days.proofs.ReckoningSteps.{month_most}
use Rattle.days.proofs.AcceptedCalendars.{accepted_rises, skipped_nowhere}
use Rattle.days.proofs.ClosedRuns.{Runs, top, julian_runs, gregorian_runs, first_day_value, first_cases, first_julian, first_gregorian, julian_month_value, gregorian_month, month_first_value, month_past, year_stretch, month_stretch, on_old, on_new}
use Rattle.inner.specs.Natural.{biased_year_value}
use Rattle.calendar.specs.declared.Calendar.{Calendar}
use Rattle.refusals.specs.declared.Refusal.{Refusal}
use Rattle.calendar.specs.Calendars.{definition_of, labels}
use Rattle.calendar.specs.Rows.{refuses, passes}
use Rattle.calendar.specs.Promise.{Given, AtYmd, on_label}
use Rattle.calendar.specs.Natural as C
use Rattle.calendar.specs.Natural.{SwitchIs}
use Rattle.calendar.specs.Laws.{found_label, label_row, refused_row, refused_nowhere}
use Rattle.switches.specs.declared.MonthSpan.{MonthSpan}
use Rattle.inner.specs.declared.Spot.{Spot}
use Rattle.switches.specs.Promise as S
use Rattle.switches.specs.Promise.{YearSpan, SpansMonth, Finds}
use Rattle.switches.specs.Laws.{starts_close}
use Rattle.months.specs.Promise as P
use Rattle.months.specs.Promise.{refused_number, OfAMonth, YearLengthOf, Len, first, no_first, last, no_last, FirstDayOf, LastDayOf, borne, not_borne, Contains, DayOrdinalOf, OffMonth, NthDay, nth_record, NthDate}
use Rattle.months.specs.One.{label_of_month}
use Rattle.months.specs.Natural.{SpanOf, Spans, spanned, no_calendar, no_month, Inside, day_in_value}
use Rattle.calendar.specs.declared.Date.{Date}

-- ---- The machine's room

-- so the days of a year or a month are few
few_between : (r j g j' g' : ℕ) → g ≤ j + 30_000_366 → j' ≤ j + 366 → g' ≤ g + 366 → first_day_value r j' g' - first_day_value r j g < 2 ^ 32
few_between r j g j' g' c u v = first_cases r j' g'
    (λ h e. first_cases r j g (λ k f. omega arith) (λ k l f. omega arith) (λ k l f. omega arith))
    (λ h i e. first_cases r j g (λ k f. omega arith) (λ k l f. omega arith) (λ k l f. omega arith))
    (λ h i e. first_cases r j g (λ k f. omega arith) (λ k l f. omega arith) (λ k l f. omega arith))

module _ (y : ℕ) (h : BiasedYear y) where
  julian_start_room : J.start y < 3_000_000_000_000
  julian_start_room = omega (arith, h.to)

  gregorian_start_room : G.start y < 3_000_000_000_000
  gregorian_start_room = omega (arith, starts_close y h.to, julian_few)
    where
      julian_few : J.start y < 2_000_000_000_000
      julian_few = omega (arith, h.to)

  module _ {m : ℕ} (v : Month m) where
    month_room : (leap_at : ℕ → Bool) (start : ℕ → ℕ) → start y < 3_000_000_000_000 → start y + days_before_value (leap_at y) m + month_length (leap_at y) m < top
    month_room leap_at start f = sum (start y) (days_before_value (leap_at y) m) (month_length (leap_at y) m) f (few_before (leap_at y) m v.0 v.1) (month_most (leap_at y) m v.0 v.1)
      where
        sum : (a b n : ℕ) → a < 3_000_000_000_000 → b ≤ 366 → n ≤ 31 → a + b + n < top
        sum a b n f g i = omega arith

    julian_room : julian_month_value y m + month_length (J.leap_at y) m < top
    julian_room = month_room J.leap_at J.start julian_start_room

    gregorian_room : gregorian_month y m + month_length (G.leap_at y) m < top
    gregorian_room = month_room G.leap_at G.start gregorian_start_room

    past_room : (r : ℕ) → month_past r y m < top
    past_room r = room (julian_month_value y m + month_length (J.leap_at y) m) (gregorian_month y m + month_length (G.leap_at y) m) julian_room gregorian_room
      where
        room : (j g : ℕ) → j < top → g < top → first_day_value r j g < top
        room j g u w = first_cases r j g (λ x e. omega arith) (λ x z e. omega arith) (λ x z e. omega arith)

    month_few : (r : ℕ) → month_past r y m - month_first_value r y m < 2 ^ 32
    month_few r = few_between r (julian_month_value y m) (gregorian_month y m) (julian_month_value y m + month_length (J.leap_at y) m) (gregorian_month y m + month_length (G.leap_at y) m)
        (sum (J.start y) (G.start y) (days_before_value (J.leap_at y) m) (days_before_value (G.leap_at y) m) (starts_close y h.to) (few_before (G.leap_at y) m v.0 v.1))
        (more (julian_month_value y m) (month_most (J.leap_at y) m v.0 v.1))
        (more (gregorian_month y m) (month_most (G.leap_at y) m v.0 v.1))
      where
        sum : (a b d e : ℕ) → b ≤ a + 30_000_000 → e ≤ 366 → b + e ≤ a + d + 30_000_366
        sum a b d e f k = omega arith

        more : (a : ℕ) {n : ℕ} → n ≤ 31 → a + n ≤ a + 366
        more a f = omega arith

-- ---- A year
next_start : {leap_at : ℕ → Bool} {start : ℕ → ℕ} {reckoning : Reckoning} → Starts reckoning leap_at start → (y : ℕ) → start (y + 1) ≤ start y + 366
next_start {leap_at} {start} s y = let e : start (y + 1) ≡ start y + year_length (leap_at y) = ap start (add-one y) ∙ s.start_next y in omega (arith, year_most (leap_at y))

module _ (c : Calendar) {r y a b : ℕ} {z : ℤ} (runs : Runs (definition_of c) r) (h : BiasedYear y) (e : year y ≡ z) (s : YearSpan r y a b) where
  year_days : Stretch (labels c) (OfYear z) day_bias a b
  year_days = subst (λ (z : ℤ). Stretch (labels c) (OfYear z) day_bias a b) e (subst₂ (λ (a b : ℕ). Stretch (labels c) (OfYear (year y)) day_bias a b) (sym s.first_is) (sym s.past_is) (year_stretch runs y h))

  pub year_ordered : a ≤ b
  year_ordered = year_days.ordered

  pub year_few : b - a < 2 ^ 32
  year_few = subst₂ (λ (a b : ℕ). b - a < 2 ^ 32) (sym s.first_is) (sym s.past_is)
      (few_between r (J.start y) (G.start y) (J.start (y + 1)) (G.start (y + 1)) (omega (arith, starts_close y h.to)) (next_start J.starts y) (next_start G.starts y))

  pub year_row : YearLengthOf c z (Ok (b - a))
  year_row = passes runs.accepted (P.number year_days.days)

-- ---- A month

-- its days in one reckoning
module _ (y : ℕ) (h : BiasedYear y) {m : ℕ} (v : Month m) (k : ℕ) where
  old_days : OfMonth (year y) m (label_of julian (day k)) → (julian_month_value y m ≤ k) × (k < julian_month_value y m + month_length (J.leap_at y) m)
  old_days p =
      let (a, b, q) = (month_stretch julian_runs y h m v.0 v.1).here k p in
      let n : ℕ = month_length (J.leap_at y) m in (
        subst (λ (i : ℕ). i ≤ k) (first_julian top (julian_month_value y m) (gregorian_month y m) (less (julian_month_value y m) n (julian_room y h v))) a,
        subst (λ (i : ℕ). k < i) (first_julian top (julian_month_value y m + n) (gregorian_month y m + month_length (G.leap_at y) m) (julian_room y h v)) b,
      )
    where
      less : (a n : ℕ) → a + n < top → a < top
      less a n g = omega arith

  new_days : OfMonth (year y) m (label_of gregorian (day k)) → (gregorian_month y m ≤ k) × (k < gregorian_month y m + month_length (G.leap_at y) m)
  new_days p =
      let (a, b, q) = (month_stretch gregorian_runs y h m v.0 v.1).here k p in (
        subst (λ (i : ℕ). i ≤ k) (from (julian_month_value y m) (gregorian_month y m)) a,
        subst (λ (i : ℕ). k < i) (from (julian_month_value y m + month_length (J.leap_at y) m) (gregorian_month y m + month_length (G.leap_at y) m)) b,
      )
    where
      from : (j g : ℕ) → first_day_value 0 j g ≡ g
      from j g = first_gregorian 0 j g (omega arith) (omega arith)

-- the day of the month of one of them
module _ (leap_at : ℕ → Bool) (start : ℕ → ℕ) (y : ℕ) {m a : ℕ} (v : Month m) (e : a ≡ start y + days_before_value (leap_at y) m) (k : ℕ) (g : a ≤ k) where
  day_there : k < a + month_length (leap_at y) m → There leap_at y m (k + 1 - a)
  day_there h = (v.0, v.1, omega arith, omega arith)

  day_number : number leap_at start y m (k + 1 - a) ≡ k
  day_number = ap (λ (b : ℕ). b + (k + 1 - a) - 1) (sym e) ∙ back a g
    where
      back : (a : ℕ) → a ≤ k → a + (k + 1 - a) - 1 ≡ k
      back a g = omega arith

-- ---- What the span of a month says
pub span_is : {c : Calendar} {z : ℤ} {m : ℕ} {s : MonthSpan} → Spans c z m (Ok s) → SpanOf c z m s
span_is (spanned p) = p

pub span_made : (c : Calendar) {z : ℤ} {r y m : ℕ} {s : Result MonthSpan Refusal} → Runs (definition_of c) r → BiasedYear y → year y ≡ z → SpansMonth r y m s → Spans c z m s
span_made c {y = y} runs h e (S.spans_month v) = spanned (record { y = y; runs = runs; year_biased = h; year_is = e; is_month = v; span = refl })
span_made c runs h e (S.no_month n) = no_month runs.accepted n

pub span_made_up : (c : Calendar) {z : ℤ} {m : ℕ} {e : Refusal} → SwitchIs c (Err e) → Spans c z m (Err e)
span_made_up c (C.no_calendar n) = no_calendar n

pub span_refused : {A : Type 0} {c : Calendar} {z : ℤ} {m : ℕ} {f : Refusal} {Below : Result A Refusal → Type 0} → Spans c z m (Err f) → OfAMonth c m Below (Err f)
span_refused (no_calendar n) = refuses n
span_refused (no_month a n) = passes a (refuses n)

module _ (c : Calendar) {z : ℤ} {m : ℕ} (s : MonthSpan) (p : SpanOf c z m s) where
  first_is : s.first ≡ month_first_value s.switch p.y m
  first_is = ap (λ (s : MonthSpan). s.first) p.span

  past_is : s.past ≡ month_past s.switch p.y m
  past_is = ap (λ (s : MonthSpan). s.past) p.span

  gregorian_is : s.gregorian ≡ gregorian_month p.y m
  gregorian_is = ap (λ (s : MonthSpan). s.gregorian) p.span

  pub month_days : Stretch (labels c) (OfMonth z m) day_bias s.first s.past
  month_days = subst (λ (z : ℤ). Stretch (labels c) (OfMonth z m) day_bias s.first s.past) p.year_is
      (subst₂ (λ (a b : ℕ). Stretch (labels c) (OfMonth (year p.y) m) day_bias a b) (sym first_is) (sym past_is)
      (month_stretch p.runs p.y p.year_biased m p.is_month.0 p.is_month.1))

  pub month_row : {A : Type 0} {Below : Result A Refusal → Type 0} {a : Result A Refusal} → Below a → OfAMonth c m Below a
  month_row b = passes p.runs.accepted (passes p.is_month b)

  pub span_ordered : s.first ≤ s.past
  span_ordered = month_days.ordered

  pub span_room : s.past < top
  span_room = subst (λ (b : ℕ). b < top) (sym past_is) (past_room p.y p.year_biased p.is_month s.switch)

  pub span_few : s.past - s.first < 2 ^ 32
  span_few = subst₂ (λ (a b : ℕ). b - a < 2 ^ 32) (sym first_is) (sym past_is) (month_few p.y p.year_biased p.is_month s.switch)

  -- a day of the month is one in its own reckoning
  module _ (k : ℕ) (from : s.first ≤ k) (to : k < s.past) where
    room : k < top
    room = omega (arith, span_room)

    of_month : {l : Label} → labels c (day k) ≡ l → OfMonth (year p.y) m l
    of_month e = subst (OfMonth (year p.y) m) e (subst (λ (z : ℤ). OfMonth z m (labels c (day k))) (sym p.year_is) (month_days.inside k from to))

    old_in : k < s.switch → (julian_month_value p.y m ≤ k) × (k < julian_month_value p.y m + month_length (J.leap_at p.y) m)
    old_in h = old_days p.y p.year_biased p.is_month k (of_month (p.runs.below k h room).0)

    new_in : s.switch ≤ k → (s.gregorian ≤ k) × (k < s.gregorian + month_length (G.leap_at p.y) m)
    new_in h = subst (λ (a : ℕ). (a ≤ k) × (k < a + month_length (G.leap_at p.y) m)) (sym gregorian_is) (new_days p.y p.year_biased p.is_month k (of_month (p.runs.above k h room).0))

    pub inside : Inside s k
    inside = record {
      from = from;
      few = omega (arith, span_few);
      new = λ h. let (a, b) = new_in h in (a, omega (arith, month_most (G.leap_at p.y) m p.is_month.0 p.is_month.1));
      room = room;
    }

    -- a month with a Julian day begins in that reckoning
    pub begins_old : k < s.switch → s.first ≡ julian_month_value p.y m
    begins_old h = first_is ∙ first_julian s.switch (julian_month_value p.y m) (gregorian_month p.y m) (below (julian_month_value p.y m) (old_in h).0)
      where
        below : (j : ℕ) → j ≤ k → j < s.switch
        below j i = omega arith

    pub label_in : labels c (day k) ≡ label z m (day_in_value s k)
    label_in = ⊎_elim
        (λ h. let n = day_number J.leap_at J.start p.y p.is_month (begins_old h) k from in
        subst₂ (λ (i d : ℕ). labels c (day i) ≡ label z m d) n (sym (simp (lt-ltb k s.switch h)))
        (on_old p.runs p.y m (k + 1 - s.first) p.year_is p.year_biased
        (day_there J.leap_at J.start p.y p.is_month (begins_old h) k from (subst (λ (a : ℕ). k < a + month_length (J.leap_at p.y) m) (sym (begins_old h)) (old_in h).1)) (subst (λ (i : ℕ). i < s.switch) (sym n) h)))
        (λ h. let (a, b) = new_in h in
        let n = day_number G.leap_at G.start p.y p.is_month gregorian_is k a in
        subst₂ (λ (i d : ℕ). labels c (day i) ≡ label z m d) n (sym (simp (le-ltb k s.switch h)))
        (on_new p.runs p.y m (k + 1 - s.gregorian) p.year_is p.year_biased (day_there G.leap_at G.start p.y p.is_month gregorian_is k a b) (subst (λ (i : ℕ). s.switch ≤ i) (sym n) h)))
        (lt_or_ge k s.switch)

  -- ---- lengths, and the first and the last day
  pub len_row : Len c z m (Ok (s.past - s.first))
  len_row = month_row (P.number month_days.days)

  no_days : s.past ≤ s.first → P.NoDay (labels c) z m
  no_days h n o = let (k, e, a, b) = month_days.only n o in never k a b h
    where
      never : (k : ℕ) → s.first ≤ k → k < s.past → s.past ≤ s.first → ⊥
      never k a b h = omega arith

  pub first_none : s.past ≤ s.first → FirstDayOf c z m (Ok 0)
  first_none h = month_row (P.number (no_first (no_days h)))

  pub last_none : s.past ≤ s.first → LastDayOf c z m (Ok 0)
  last_none h = month_row (P.number (no_last (no_days h)))

  pub first_row : {d : ℕ} → s.first < s.past → d ≡ day_in_value s s.first → FirstDayOf c z m (Ok d)
  first_row h e = month_row (P.number (first (label_in s.first (omega arith) h ∙ ap (label z m) (sym e))
      (λ n o. let (k, w, a, b) = month_days.only n o in subst (λ (n : ℤ). day s.first ≤ℤ n) (sym w) (unbias_le day_bias s.first k a))))

  pub last_row : {d : ℕ} → s.first < s.past → d ≡ day_in_value s (s.past - 1) → LastDayOf c z m (Ok d)
  last_row h e = month_row (P.number (last (label_in (s.past - 1) (omega arith) (omega arith) ∙ ap (label z m) (sym e))
      (λ n o. let (k, w, a, b) = month_days.only n o in subst (λ (n : ℤ). n ≤ℤ day (s.past - 1)) (sym w) (unbias_le day_bias k (s.past - 1) (omega arith)))))

  -- ---- a label of the month
  module _ {x d : ℕ} (h : BiasedYear (biased_year_value x)) (e : year (biased_year_value x) ≡ z) where
    bears : (f : Result Spot Refusal) → Finds s.switch x m d f → P.Bears (labels c) (label z m d) (Ok (is_ok f))
    bears (Ok i) f = borne (day i.biased, found_label c p.runs h e f)
    bears (Err r) f = not_borne (refused_nowhere c p.runs h e f)

    pub contains_row : {f : Result Spot Refusal} {b : Bool} → Finds s.switch x m d f → b ≡ is_ok f → Contains c z m d (Ok b)
    contains_row {f} p q = rw q (month_row (bears f p))

    pub refused_place : {r : Refusal} → Finds s.switch x m d (Err r) → DayOrdinalOf c z m d (Err r)
    refused_place f = month_row (refused_row c p.runs h e Err f)

    module _ {i : Spot} (f : Finds s.switch x m d (Ok i)) where
      found_place : (s.first ≤ i.biased) × (i.biased < s.past) × Place (λ n. OfMonth z m (labels c n)) (day i.biased) (i.biased + 1 - s.first)
      found_place = month_days.here i.biased (label_of_month (found_label c p.runs h e f))

      -- what it asks of the machine
      pub found_from : s.first ≤ i.biased + 1
      found_from = omega (arith, found_place.0)

      pub found_room : i.biased < top
      found_room = omega (arith, found_place.1, span_room)

      pub found_few : i.biased + 1 - s.first < 2 ^ 32
      found_few = omega (arith, found_place.1, span_few)

      pub place_row : DayOrdinalOf c z m d (Ok (i.biased + 1 - s.first))
      place_row =
          let l : labels c (day i.biased) ≡ label z m d = found_label c p.runs h e f in
          month_row (label_row c p.runs h e Err f
          (P.number (day i.biased, l, subst (λ (l : Label). Place (λ n. OfMonth l.year l.month (labels c n)) (day i.biased) (i.biased + 1 - s.first)) (sym l) found_place.2)))

  -- ---- the k-th day
  module _ (k : ℕ) where
    off_by : ((k ≡ 0) ⊎ (s.past - s.first < k)) → NthDay c z m k (refused_number 21 k)
    off_by n = month_row (refuses (s.past - s.first, month_days.days, n))

    pub off_low : k < 1 → NthDay c z m k (refused_number 21 k)
    off_low h = off_by (inl (omega arith))

    pub off_high : s.past ≤ s.first + k - 1 → 1 ≤ k → NthDay c z m k (refused_number 21 k)
    off_high h u = off_by (inr (omega (arith, span_ordered)))

    pub nth_row : {d : ℕ} → 1 ≤ k → s.first + k - 1 < s.past → d ≡ day_in_value s (s.first + k - 1) → NthDay c z m k (Ok d)
    nth_row u v e =
        let a : s.first ≤ s.first + k - 1 = omega arith in
        let o = month_days.inside (s.first + k - 1) a v in
        month_row (passes not_off (P.number (
          day (s.first + k - 1),
          record { of_month = o; place = subst (Place (λ n. OfMonth z m (labels c n)) (day (s.first + k - 1))) (back s.first u) (month_days.here (s.first + k - 1) o).2 },
          label_in (s.first + k - 1) a v ∙ ap (label z m) (sym e),
        )))
      where
        back : (a : ℕ) → 1 ≤ k → a + k - 1 + 1 - a ≡ k
        back a u = omega arith

        not_off : ¬ OffMonth c z m k
        not_off (t, w, n) = ⊎_elim never_low (never_high (days_one w month_days.days)) n
          where
            never_low : k ≡ 0 → ⊥
            never_low q = omega arith

            never_high : t ≡ s.past - s.first → t < k → ⊥
            never_high w q = omega arith

-- the record of the k-th day, by its label
pub nth_refused : {c : Calendar} {z : ℤ} {m k : ℕ} {f : Refusal} → NthDay c z m k (Err f) → NthDate c z m k (Err f)
nth_refused (refuses x) = refuses x
nth_refused (passes a (refuses x)) = passes a (refuses x)
nth_refused (passes a (passes v (refuses x))) = passes a (passes v (refuses x))
nth_refused {c = c} {z = z} {m = m} {k = k} {f = f} (passes a (passes v (passes _ x7))) = elim x7 [ ]

pub nth_date_row : {c : Calendar} {z : ℤ} {m k d : ℕ} {a : Result Date Refusal} → NthDay c z m k (Ok d) → AtYmd c z m d a → NthDate c z m k a
nth_date_row (passes x (passes v (passes n (P.number (i, p, e))))) (refuses y) = absurd (y x)
nth_date_row (passes x (passes v (passes n (P.number (i, p, e))))) (passes y (refuses w)) = absurd (w v)
nth_date_row (passes x (passes v (passes n (P.number (i, p, e))))) (passes y (passes w (refuses f))) = absurd (f.0 (i, e))
nth_date_row (passes x (passes v (passes n (P.number (i, p, e))))) (passes y (passes w (passes f (refuses g)))) = absurd (skipped_nowhere x g (i, e))
nth_date_row {c} {z} {a = a} (passes x (passes v (passes n (P.number (i, p, e))))) (passes y (passes w (passes f (passes g (on_label {n = j} q r))))) =
    passes x (passes v (passes n (nth_record p (subst (λ (j : ℤ). Given c z j a) (once (accepted_rises x) (q ∙ sym e)) r))))
