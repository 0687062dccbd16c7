-- From the arithmetic of the months to what is promised.
-- Assumes nothing.
use Rattle.std.specs.Prelude.{◌≡◌, refl, Bool, true, false, cond, ℕ, zero, suc, ◌+◌, ◌-◌, ◌*◌, ◌/◌, ◌<◌, ◌≤◌, ◌^◌, ltb, ℤ, pos, ◌≤ℤ◌, Some}
use Rattle.std.proofs.Common.{sym, ◌∙◌, ap, subst, arith, lt-ltb, le-ltb, ltb-true}
use Rattle.std.proofs.Math.Logic.{⊎_elim}
use Rattle.std.proofs.Math.IntN.{suc_ℤ}
use Rattle.std.specs.Int.Signed.{clash_ℤ}
use Rattle.whole.specs.Tests.{lt_or_ge}
use Rattle.whole.specs.Integers.{lt_suc, eq_le}
use Rattle.days.specs.DayByDay.{Label, label, LeapRule, month_length, Month}
use Rattle.days.proofs.ReckoningSteps as Steps
use Rattle.days.proofs.ReckoningSteps.{Valid, after, after_stepping, after_sum, after_valid}
use Rattle.days.proofs.LabelOrder.{≺-year}
use Rattle.days.proofs.ClosedYear.{year_length, DayOfMonth as MonthAndDay, day_of_month, day_of_year, year_most, year_walk, year_over}
use Rattle.days.proofs.ClosedMonths.{twelve, ordinal_is, ordinal_within}
use Rattle.days.proofs.ClosedNumbers.{days_before_value, before, to_thirty_value, month_at, month_at_lem}
use Rattle.days.proofs.ReckoningLabels.{after_later}
use Rattle.monthdays.specs.Promise.{OfOrdinal, MonthDayOf, month_day, OrdinalOf, ordinal, MonthDayAt}

first_valid : (rule : LeapRule) (y : ℤ) → Valid rule (label y 1 1)
first_valid rule y = record { month_from = omega arith; month_to = omega arith; day_from = omega arith; day_to = Steps.month_some (rule y) 1 (omega arith) (omega arith) }

module _ (leap : Bool) where
  pub in_year_at : (o : ℕ) → 1 ≤ o → o ≤ year_length leap → OfOrdinal leap o (day_of_month leap o).month (day_of_month leap o).day
  in_year_at o f t = record {
    from = f;
    comes = λ rule y e. sym (after_stepping rule (o - 1) (label y 1 1)) ∙ year_walk rule y leap e (o - 1) (omega arith) ∙ ap (day_of_year leap y) again;
  }
    where
      again : suc (o - 1) ≡ o
      again = omega arith

  -- the day d of the month m
  pub in_year_month : (m d : ℕ) → Month m → 1 ≤ d → d ≤ month_length leap m → OfOrdinal leap (days_before_value leap m + d) m d
  in_year_month m d (u, v) f t =
      let e : day_of_month leap (days_before_value leap m + d) ≡ record { month = m; day = d } = ordinal_is leap m (days_before_value leap m) d u v f t (before leap m u v) in
      let p : OfOrdinal leap (days_before_value leap m + d) (day_of_month leap (days_before_value leap m + d)).month (day_of_month leap (days_before_value leap m + d)).day =
      in_year_at (days_before_value leap m + d) (omega arith) (ordinal_within leap m (days_before_value leap m) d u v t (before leap m u v)) in
      subst (λ (i : MonthAndDay). OfOrdinal leap (days_before_value leap m + d) i.month i.day) e p

  -- a label that comes so is of a month, and a day of it, and comes within the year
  pub in_year_valid : {o m d : ℕ} → OfOrdinal leap o m d → Month m × (1 ≤ d) × (d ≤ month_length leap m)
  in_year_valid {o} {m} {d} p =
      let v : Valid (λ _. leap) (label (pos 0) m d) = subst (Valid (λ _. leap)) (after_stepping (λ _. leap) (o - 1) (label (pos 0) 1 1) ∙ p.comes (λ _. leap) (pos 0) refl)
      (after_valid (λ _. leap) (o - 1) (label (pos 0) 1 1) (first_valid (λ _. leap) (pos 0))) in
      ((v.month_from, v.month_to), v.day_from, v.day_to)

  pub in_year_to : {o m d : ℕ} → OfOrdinal leap o m d → o ≤ year_length leap
  unfolding after
  in_year_to {o} {m} {d} p = ⊎_elim (λ h. absurd (never h)) (λ h. h) (lt_or_ge (year_length leap) o)
    where
      next : Label
      next = label (suc_ℤ (pos 0)) 1 1

      come : (i : ℕ) → year_length leap + i ≡ o - 1 → after (λ _. leap) i next ≡ label (pos 0) m d
      come i e = ap (after (λ _. leap) i) (sym (year_over (λ _. leap) (pos 0) leap refl)) ∙ sym (after_sum (λ _. leap) (year_length leap) i (label (pos 0) 1 1))
          ∙ ap (λ (k : ℕ). after (λ _. leap) k (label (pos 0) 1 1)) e ∙ after_stepping (λ _. leap) (o - 1) (label (pos 0) 1 1) ∙ p.comes (λ _. leap) (pos 0) refl

      later : (i : ℕ) → pos 1 ≤ℤ (after (λ _. leap) i next).year
      later zero = eq_le refl
      later (suc i) = ≺-year (after_later (λ _. leap) i next)

      never : year_length leap < o → ⊥
      never h =
          let e : year_length leap + (o - 1 - year_length leap) ≡ o - 1 = omega arith in
          clash_ℤ (lt_suc (pos 0)) (subst (λ (l : Label). pos 1 ≤ℤ l.year) (come (o - 1 - year_length leap) e) (later (o - 1 - year_length leap)))

-- ---- The month by arithmetic

-- the place o as it would be if February had 30 days, and its month m by division
module _ (leap : Bool) (o t m : ℕ) (f : 1 ≤ o) (e : t ≡ to_thirty_value leap o) (g : m ≡ (12 * (o + t) + 361) / 367) where
  thirty_few : t ≤ 2
  thirty_few = rw e (few leap (ltb (cond leap 60 59) o))
    where
      few : (b c : Bool) → cond c (cond b 1 2) 0 ≤ 2
      few true true = omega arith
      few true false = omega arith
      few false true = omega arith
      few false false = omega arith

  pub month_some : 1 ≤ m
  month_some = omega arith

  pub month_room : o < 2 ^ 33 → m < 2 ^ 32
  month_room h = omega (arith, thirty_few)

  pub day_some : (367 * m - 362) / 12 < o + t
  day_some = omega arith

  -- past February exactly where the place is
  same_side : to_thirty_value leap o ≡ cond (ltb 2 m) (cond leap 1 2) 0
  same_side = ⊎_elim
      (λ h. late h)
      (λ h. early h)
      (lt_or_ge (cond leap 60 59) o)
    where
      past : (b : Bool) → cond b 60 59 < o → to_thirty_value b o ≡ cond b 1 2
      past b h = simp (lt-ltb (cond b 60 59) o h)

      not_past : (b : Bool) → o ≤ cond b 60 59 → to_thirty_value b o ≡ 0
      not_past b h = simp (le-ltb (cond b 60 59) o h)

      after : (b : Bool) → cond b 60 59 < o → t ≡ cond b 1 2 → 2 < m
      after true h q = omega arith
      after false h q = omega arith

      before_march : (b : Bool) → o ≤ cond b 60 59 → t ≡ 0 → m ≤ 2
      before_march true h q = omega arith
      before_march false h q = omega arith

      late : cond leap 60 59 < o → to_thirty_value leap o ≡ cond (ltb 2 m) (cond leap 1 2) 0
      late h = past leap h ∙ sym (ap (λ (b : Bool). cond b (cond leap 1 2) 0) (lt-ltb 2 m (after leap h (e ∙ past leap h))))

      early : o ≤ cond leap 60 59 → to_thirty_value leap o ≡ cond (ltb 2 m) (cond leap 1 2) 0
      early h = not_past leap h ∙ sym (ap (λ (b : Bool). cond b (cond leap 1 2) 0) (le-ltb 2 m (before_march leap h (e ∙ not_past leap h))))

  pub month_day_at : MonthDayAt leap o m (o + t - (367 * m - 362) / 12)
  month_day_at = record {
    month_is = g ∙ ap (λ (t : ℕ). (12 * (o + t) + 361) / 367) e;
    day_is = sum (cond (ltb 2 m) (cond leap 1 2) 0) ((367 * m - 362) / 12) (e ∙ same_side) day_some (room leap (ltb 2 m) refl);
  }
    where
      sum : (s q : ℕ) → t ≡ s → q < o + t → s ≤ q → q - s + (o + t - q) ≡ o
      sum s q a b c = omega arith

      room : (b c : Bool) → ltb 2 m ≡ c → cond c (cond b 1 2) 0 ≤ (367 * m - 362) / 12
      room true true q = omega (arith, ltb-true 2 m q)
      room false true q = omega (arith, ltb-true 2 m q)
      room true false q = omega arith
      room false false q = omega arith

-- the months go past the twelfth exactly where the places go past the year
pub month_few : {leap : Bool} {o m d : ℕ} → 1 ≤ o → o ≤ year_length leap → MonthDayAt leap o m d → m ≤ 12
month_few {leap} {o} f t p = rw p.month_is (month_at_lem leap o f t).1

pub year_few : (leap : Bool) {o m d : ℕ} → MonthDayAt leap o m d → m ≤ 12 → o ≤ year_length leap
year_few leap {o} {m} p h = ⊎_elim (λ g. absurd (past leap g p.month_is)) (λ g. g) (lt_or_ge (year_length leap) o)
  where
    past : (b : Bool) → year_length b < o → m ≡ month_at b o → ⊥
    past true g e =
        let q : to_thirty_value true o ≡ 1 = simp (lt-ltb 60 o (omega arith)) in
        let f : m ≡ (12 * (o + 1) + 361) / 367 = rw q at e in
        omega arith
    past false g e =
        let q : to_thirty_value false o ≡ 2 = simp (lt-ltb 59 o (omega arith)) in
        let f : m ≡ (12 * (o + 2) + 361) / 367 = rw q at e in
        omega arith

-- within a year it is the month, and the day of the month
pub month_day_in : {leap : Bool} {o m d : ℕ} → 1 ≤ o → o ≤ year_length leap → MonthDayAt leap o m d → Month m × (1 ≤ d) × (d ≤ month_length leap m)
month_day_in {leap} {o} {m} {d} f t p =
    let (a, b, c, e) = month_at_lem leap o f t in
    let q : (1 ≤ m) × (m ≤ 12) × (days_before_value leap m < o) × (o ≤ days_before_value leap m + month_length leap m) = rw p.month_is (a, b, c, e) in
    ((q.0, q.1), omega (arith, p.day_is, q.2), omega (arith, p.day_is, q.3))

-- every month has 28 days
pub month_least : (leap : Bool) (m : ℕ) → Month m → 28 ≤ month_length leap m
unfolding month_length
month_least true m v = twelve (λ m. 28 ≤ month_length true m) (omega arith) (omega arith) (omega arith) (omega arith) (omega arith) (omega arith) (omega arith) (omega arith) (omega arith) (omega arith) (omega arith) (omega arith) m v.0 v.1
month_least false m v = twelve (λ m. 28 ≤ month_length false m) (omega arith) (omega arith) (omega arith) (omega arith) (omega arith) (omega arith) (omega arith) (omega arith) (omega arith) (omega arith) (omega arith) (omega arith) m v.0 v.1

-- the answers
pub month_answer : {leap : Bool} {o m d : ℕ} → 1 ≤ o → o ≤ year_length leap → MonthDayAt leap o m d → MonthDayOf leap o (Some (m, d))
month_answer {leap} {o} {m} {d} f t p =
    let (v, u, w) = month_day_in f t p in
    month_day (subst (λ (o : ℕ). OfOrdinal leap o m d) p.day_is (in_year_month leap m d v u w))

module _ (leap : Bool) (m d : ℕ) (v : Month m) (f : 1 ≤ d) (t : d ≤ month_length leap m) where
  pub ordinal_found : {b : ℕ} → b ≡ days_before_value leap m → OrdinalOf leap m d (Some (b + d))
  ordinal_found g = rw g (ordinal (in_year_month leap m d v f t))

  pub ordinal_few : {b : ℕ} → b ≡ days_before_value leap m → b + d ≤ 366
  ordinal_few g = omega (arith, ordinal_within leap m (days_before_value leap m) d v.0 v.1 t (before leap m v.0 v.1), year_most leap)
