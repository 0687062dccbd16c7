-- In any timeline that rises, every date has an answer: every year, month and day, and every year and ordinal.
-- Assumes nothing.
use Rattle.std.specs.Prelude.{◌≡◌, ◌⊎◌, ℕ, ◌+◌, ◌-◌, ◌<◌, ◌≤◌, ℤ, pos, Result, Ok}
use Rattle.std.proofs.Common.{subst, inl, inr, ⊎_elim, arith}
use Rattle.whole.specs.Tests as N
use Rattle.whole.specs.Promise.{unbias}
use Rattle.days.specs.DayByDay.{Label, label, Timeline, labels_in, OfYear, Place, Month, Rising}
use Rattle.days.proofs.RisingLabels.{days_one}
use Rattle.days.specs.RisingSpans.{Stretch}
use Rattle.days.proofs.RisingTimelines.{rising_rises, timeline_proper, timeline_most}
use Rattle.days.proofs.RisingDecided.{Decided, fits_or_not, borne_or_not, skipped_or_not, year_days}
use Rattle.calendar.specs.declared.Calendar.{Calendar}
use Rattle.calendar.specs.Rows.{refuses, passes}
use Rattle.calendar.specs.Promise.{refused, record_of, GivenIn, on_label, ByLabelIn, YmdIn, OffYearIn, on_ordinal, OrdinalIn}
use Rattle.calendar.specs.Theorems.{has_record}
use Rattle.refusals.specs.declared.Refusal.{Refusal}
use Rattle.calendar.specs.declared.Date.{Date}

module _ (t : Timeline) (r : Rising t) (c : Calendar) where
  -- a day that is found: its record, or 7
  given_answered : (y n : ℤ) → (a : Result Date Refusal) × GivenIn t c y n a
  given_answered y n = ⊎_elim (λ f. let (d, i) = has_record t r c n in (Ok d, passes f (record_of i))) (λ x. (refused 7 y, refuses x)) (fits_or_not n)

  module _ (y : ℤ) where
    pub ymd_answered : (m d : ℕ) → (a : Result Date Refusal) × YmdIn t c y m d a
    ymd_answered m d = ⊎_elim (λ v. let (a, p) = by_label in (a, passes v p)) (λ x. (refused 3 (pos m), refuses x)) month_or_not
      where
        l : Label
        l = label y m d

        month_or_not : Decided (Month m)
        month_or_not = ⊎_elim (λ h. ⊎_elim (λ k. inl (omega arith, omega arith)) (λ k. inr (λ v. omega arith)) (N.lt_or_ge m 13)) (λ h. inr (λ v. omega arith)) (N.lt_or_ge 0 m)

        by_label : (a : Result Date Refusal) × ByLabelIn t c y m d a
        by_label = ⊎_elim
            (λ s. (refused 5 (pos d), passes (λ x. x.1 s) (refuses s)))
            (λ s. ⊎_elim
            (λ (n, e). let (a, g) = given_answered y n in (a, passes (λ x. x.0 (n, e)) (passes s (on_label e g))))
            (λ x. (refused 4 (pos d), refuses (x, s)))
            (borne_or_not (rising_rises r) (timeline_proper t) (timeline_most t) l))
            (skipped_or_not t l)

    pub ordinal_answered : (o : ℕ) → (a : Result Date Refusal) × OrdinalIn t c y o a
    ordinal_answered o = let (bias, i, j, s) = year_days (rising_rises r) (timeline_proper t) (timeline_most t) y in by s
      where
        by : {bias i j : ℕ} → Stretch (labels_in t) (OfYear y) bias i j → (a : Result Date Refusal) × OrdinalIn t c y o a
        by {bias} {i} {j} s = ⊎_elim
            (λ h. ⊎_elim (λ k. off (inr k)) (λ k. on h k) (N.lt_or_ge (j - i) o))
            (λ h. off (inl (omega arith)))
            (N.lt_or_ge 0 o)
          where
            off : (o ≡ 0) ⊎ (j - i < o) → (a : Result Date Refusal) × OrdinalIn t c y o a
            off h = (refused 6 (pos o), refuses (j - i, s.days, h))

            on : 0 < o → o ≤ j - i → (a : Result Date Refusal) × OrdinalIn t c y o a
            on h k =
                let u : OfYear y (labels_in t (unbias bias (i + o - 1))) = s.inside (i + o - 1) (omega arith) (omega arith) in
                let (a, g) = given_answered y (unbias bias (i + o - 1)) in
                (a, passes within (on_ordinal u (subst (Place (λ d. OfYear y (labels_in t d)) (unbias bias (i + o - 1))) same (s.here (i + o - 1) u).2) g))
              where
                same : i + o - 1 + 1 - i ≡ o
                same = omega arith

                within : ¬ OffYearIn t y o
                within (n, q, x) = ⊎_elim (λ e. omega arith) (λ g. omega (arith, days_one s.days q)) x
