-- From what the private functions say to the promise.
-- Assumes nothing.
use Rattle.std.specs.Prelude.{◌≡◌, ℕ, ◌+◌, ◌-◌, ◌<◌, ◌≤◌, ℤ, Ok}
use Rattle.std.proofs.Common.{sym, ◌∙◌, ap, ap₂, subst, subst₂, inl, inr, ⊎_elim, arith, lt-ltb, le-ltb}
use Rattle.whole.specs.Tests.{lt_or_ge}
use Rattle.whole.specs.Integers.{unbias_le}
use Rattle.days.specs.DayByDay.{Label, label, label_of, julian, gregorian, ◌≺◌, Borne, AcceptedReformation}
use Rattle.days.proofs.LabelOrder.{≺-irrefl}
use Rattle.days.proofs.RisingLabels.{no_later}
use Rattle.days.specs.BiasedDays.{day_bias, day, year}
use Rattle.days.proofs.ReckoningLabels.{julian_rises}
use Rattle.days.proofs.ClosedJulian as J
use Rattle.days.proofs.ClosedGregorian as G
use Rattle.days.proofs.ClosedNumbers.{There, number, numbered, there}
use Rattle.days.specs.ClosedRuns.{julian_month_value}
use Rattle.days.proofs.ReformationTable.{there_too}
use Rattle.calendar.specs.declared.Calendar.{Calendar}
use Rattle.calendar.specs.Calendars.{labels}
use Rattle.switches.specs.declared.MonthSpan.{MonthSpan}
use Rattle.months.specs.One.{label_of_month}
use Rattle.months.specs.Natural.{SpanOf, Inside}
use Rattle.months.specs.Laws.{month_days, month_row, span_room, inside, begins_old, label_in}
use Rattle.monthruns.specs.declared.Run.{Run}
use Rattle.monthruns.specs.declared.Runs.{Runs}
use Rattle.monthruns.specs.Promise.{InRun, HasRuns, are_runs, RunsOf}
use Rattle.monthruns.specs.Natural.{run_of, Few, AllInside, RunsIn, no_run, new_run, old_run, two_runs}

-- ---- a run by its two days
abbrev run : ℕ → ℕ → Run
run a b = record { first = a; last = b }

pub same_run : {a b c d : ℕ} → a ≡ c → b ≡ d → run a b ≡ run c d
same_run = ap₂ run

-- ---- The machine's room
module _ (s : MonthSpan) (w : AllInside s) where
  pub old_few : (b : ℕ) → s.first < b → b ≤ s.past → Few s.first s.first (b - 1)
  old_few b h g =
      let i : Inside s (b - 1) = w (b - 1) (omega arith) (omega arith) in
      record { from = omega arith; to = omega arith; few = i.few; room = i.room }

  pub new_few : (a : ℕ) → s.first ≤ a → s.switch ≤ a → a < s.past → Few s.gregorian a (s.past - 1)
  new_few a h k g =
      let i : Inside s (s.past - 1) = w (s.past - 1) (omega arith) (omega arith) in
      record { from = ((w a h g).new k).0; to = omega arith; few = omega (arith, i.new (omega arith)); room = i.room }

-- ---- The runs

module _ (c : Calendar) {z : ℤ} {m : ℕ} (s : MonthSpan) (p : SpanOf c z m s) where
  pub all_inside : AllInside s
  all_inside k = inside c s p k

  -- ---- the day of the month of a day of the month
  module _ (k : ℕ) (from : s.first ≤ k) (to : k < s.past) where
    old_day : k < s.switch → labels c (day k) ≡ label z m (k + 1 - s.first)
    old_day h = label_in c s p k from to ∙ ap (label z m) (simp (lt-ltb k s.switch h))

    new_day : s.switch ≤ k → labels c (day k) ≡ label z m (k + 1 - s.gregorian)
    new_day h = label_in c s p k from to ∙ ap (label z m) (simp (le-ltb k s.switch h))

    new_from : s.switch ≤ k → s.gregorian ≤ k
    new_from h = ((inside c s p k from to).new h).0

  -- ---- days of the month that count from the day `start`
  module _ (start a b : ℕ) (from : start ≤ a) (are : (k : ℕ) → a ≤ k → k ≤ b → labels c (day k) ≡ label z m (k + 1 - start)) where
    run_borne : (d : ℕ) → InRun (run_of start a b) d → Borne (labels c) (label z m d)
    run_borne d (h, i) = (day (d + start - 1), are (d + start - 1) (omega arith) (omega arith) ∙ ap (label z m) (omega arith))

    run_in : (k : ℕ) {d : ℕ} → a ≤ k → k ≤ b → labels c (day k) ≡ label z m d → InRun (run_of start a b) d
    run_in k {d} h i e =
        let q : k + 1 - start ≡ d = ap (λ (l : Label). l.day) (sym (are k h i) ∙ e) in
        (omega arith, omega arith)

  -- a label of the month is on a day of it
  borne_day : {d : ℕ} → Borne (labels c) (label z m d) → (k : ℕ) × (s.first ≤ k) × (k < s.past) × (labels c (day k) ≡ label z m d)
  borne_day (n, e) = let (k, w, a, b) = (month_days c s p).only n (label_of_month e) in (k, a, b, ap (labels c) (sym w) ∙ e)

  -- ---- between a Julian run and a Gregorian one a number is left out: on the day of the switch the Julian label is the earlier one
  module _ (h : s.first < s.switch) (g : s.switch < s.past) where
    abbrev e : ℕ
    e = s.switch + 1 - s.gregorian

    new_label : label_of gregorian (day s.switch) ≡ label z m e
    new_label = sym (p.runs.above s.switch (omega arith) (omega (arith, span_room c s p))).0 ∙ new_day s.switch (omega arith) g (omega arith)

    left_out : s.gregorian < s.first
    left_out = ⊎_elim (λ k. k) (λ k. absurd (never k)) (lt_or_ge s.gregorian s.first)
      where
        accepted : AcceptedReformation (day s.switch)
        accepted = p.runs.reforms (omega arith) (omega (arith, span_room c s p))

        year_label : label z m e ≡ label (year p.y) m e
        year_label = ap (λ (z : ℤ). label z m e) (sym p.year_is)

        is_there : There J.leap_at p.y m e
        is_there = there_too p.y m e (there G.starts p.y m e (day s.switch, new_label ∙ year_label))

        n : ℕ
        n = number J.leap_at J.start p.y m e

        old_label : label_of julian (day n) ≡ label z m e
        old_label = numbered J.starts p.y m e is_there ∙ sym year_label

        never : s.first ≤ s.gregorian → ⊥
        never k = ≺-irrefl (subst₂ ◌≺◌ old_label new_label (no_later julian_rises (unbias_le day_bias n s.switch before) accepted.later))
          where
            before : n ≤ s.switch
            before =
                let f : s.first ≡ julian_month_value p.y m = begins_old c s p s.first (omega arith) (omega arith) h in
                let i : s.gregorian ≤ s.switch = new_from s.switch (omega arith) g (omega arith) in
                subst (λ (j : ℕ). j + e - 1 ≤ s.switch) f (omega arith)

  -- ---- the runs
  pub has_runs : {r : Runs} → RunsIn s r → HasRuns (labels c) z m r
  has_runs (no_run h) = record {
    apart = tt;
    in_runs = λ d b. let (k, u, v, e) = borne_day b in omega arith;
    borne = λ d i. absurd i;
  }
  has_runs (new_run g h) =
      let from : s.gregorian ≤ s.first = new_from s.first (omega arith) g h in
      let are : (k : ℕ) → s.first ≤ k → k ≤ s.past - 1 → labels c (day k) ≡ label z m (k + 1 - s.gregorian) = λ k i j. new_day k i (omega arith) (omega arith) in
      record {
        apart = omega arith;
        in_runs = λ d b. let (k, u, v, e) = borne_day b in run_in s.gregorian s.first (s.past - 1) from are k u (omega arith) e;
        borne = run_borne s.gregorian s.first (s.past - 1) from are;
      }
  has_runs (old_run g h) =
      let are : (k : ℕ) → s.first ≤ k → k ≤ s.past - 1 → labels c (day k) ≡ label z m (k + 1 - s.first) = λ k i j. old_day k i (omega arith) (omega arith) in
      record {
        apart = omega arith;
        in_runs = λ d b. let (k, u, v, e) = borne_day b in run_in s.first s.first (s.past - 1) (omega arith) are k u (omega arith) e;
        borne = run_borne s.first s.first (s.past - 1) (omega arith) are;
      }
  has_runs (two_runs h g) =
      let from : s.gregorian < s.first = left_out h g in
      let old : (k : ℕ) → s.first ≤ k → k ≤ s.switch - 1 → labels c (day k) ≡ label z m (k + 1 - s.first) = λ k i j. old_day k i (omega arith) (omega arith) in
      let new : (k : ℕ) → s.switch ≤ k → k ≤ s.past - 1 → labels c (day k) ≡ label z m (k + 1 - s.gregorian) = λ k i j. new_day k (omega arith) (omega arith) i in
      record {
        apart = (omega arith, omega arith, omega arith);
        in_runs = λ d b.
            let (k, u, v, e) = borne_day b in
            ⊎_elim (λ i. inl (run_in s.first s.first (s.switch - 1) (omega arith) old k u (omega arith) e)) (λ i. inr (run_in s.gregorian s.switch (s.past - 1) (omega arith) new k i (omega arith) e))
            (lt_or_ge k s.switch);
        borne = λ d. ⊎_elim (run_borne s.first s.first (s.switch - 1) (omega arith) old d) (run_borne s.gregorian s.switch (s.past - 1) (omega arith) new d);
      }

  pub runs_row : {r : Runs} → RunsIn s r → RunsOf c z m (Ok r)
  runs_row w = month_row c s p (are_runs (has_runs w))
