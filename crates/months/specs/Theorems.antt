-- What follows from the promises: the lengths of the months of a year add up to its length, and the position of a day and the day of a
-- position undo each other.
-- Assumes nothing.
use Rattle.std.specs.Prelude.{◌≡◌, refl, ◌⊎◌, ℕ, zero, suc, ◌+◌, ◌-◌, ◌<◌, ◌≤◌, ◌^◌, ℤ, pos, neg_ℤ, ◌+ℤ◌, ◌-ℤ◌, ◌<ℤ◌, ◌≤ℤ◌, Result, Ok, Err}
use Rattle.std.proofs.Common.{sym, ◌∙◌, ap, ap₂, subst, subst₂, inl, inr, ⊎_elim, arith, add-one}
use Rattle.std.proofs.Math.IntN.{+ℤ_idr, +ℤ_assoc, neg_ℤ-+ℤ, pos-+ℤ-pos}
use Rattle.std.specs.Int.Signed.{≤ℤ_refl, clash_ℤ}
use Rattle.whole.specs.Edge.{unbias_fits_only}
use Rattle.whole.specs.Tests as N
use Rattle.std.proofs.Math.Facts.{leb_yes}
use Rattle.whole.specs.Integers.{lt_or_ge, lt_le, le_trans, antisym, back_le, back_lt, none_between}
use Rattle.days.specs.DayByDay.{Label, label, by_month, Rises, month_length, Is32Bit, gregorian_accepted, Borne, OfMonth, Place, DayOrdinal, Days, YearLength, MonthLength, Month}
use Rattle.days.proofs.LabelOrder.{≺-month}
use Rattle.days.proofs.RisingLabels.{up_back, year_run, here, days_one, place_one, nth_within}
use Rattle.days.specs.RisingSpans.{Proper}
use Rattle.days.proofs.AcceptedCalendars.{accepted_rises, labels_proper, skipped_nowhere}
use Rattle.days.proofs.ClosedGregorian as G
use Rattle.days.specs.BiasedDays.{BiasedYear}
use Rattle.days.specs.ClosedNumbers.{There}
use Rattle.days.proofs.ClosedRuns.{gregorian_runs, on_new, day_ordinal_at}
use Rattle.calendar.specs.declared.Calendar.{Calendar}
use Rattle.calendar.specs.declared.Calendar.TheVariants.{Gregorian}
use Rattle.calendar.specs.declared.Date.{Date}
use Rattle.calendar.specs.Calendars.{definition_of, labels}
use Rattle.calendar.specs.Rows.{refuses, passes}
use Rattle.refusals.specs.declared.Refusal.{Refusal}
use Rattle.calendar.specs.Promise.{Given, record_of, refused, AtYmd, on_label, OfALabel}
use Rattle.calendar.specs.One.{at_ymd_one}
use Rattle.months.specs.Promise.{number, YearLengthOf, Len, DayOrdinalOf, IsNth, NthDay, nth_record, NthDate, OfAMonth}
use Rattle.months.specs.One.{label_of_month, is_nth_one, nth_label_one, place_of_one}

-- ---- Two runs of days, one after the other
none_of : {P : ℤ → Type 0} → Days P 0 → (n : ℤ) → ¬ P n
none_of p n q = ⊎_elim (λ h. p.none_after n h q) (λ h. p.place.none_before n (subst (λ (z : ℤ). n ≤ℤ z) (sym (+ℤ_idr p.last)) h) q) (lt_or_ge p.last n)

-- properties that hold of the same days
same_days : {P Q : ℤ → Type 0} {k : ℕ} → ((n : ℤ) → P n → Q n) → ((n : ℤ) → Q n → P n) → Days P k → Days Q k
same_days to from p = record {
  last = p.last;
  place = record { counted = λ j h. to _ (p.place.counted j h); none_before = λ d h q. p.place.none_before d h (from d q) };
  none_after = λ d h q. p.none_after d h (from d q);
}

back_add : (x : ℤ) (i j : ℕ) → (x -ℤ pos i) -ℤ pos j ≡ x -ℤ pos (i + j)
back_add x i j = +ℤ_assoc x (neg_ℤ (pos i)) (neg_ℤ (pos j)) ∙ ap (λ (z : ℤ). x +ℤ z) (sym (neg_ℤ-+ℤ (pos i) (pos j)) ∙ ap neg_ℤ (pos-+ℤ-pos i j))

-- days with P, then days with Q, with no day between them that has neither
record Follows (P Q R : ℤ → Type 0) : Type 0 where
  left : (n : ℤ) → P n → R n
  right : (n : ℤ) → Q n → R n
  either : (n : ℤ) → R n → P n ⊎ Q n
  before : (n k : ℤ) → P n → Q k → n <ℤ k
  between : (n i k : ℤ) → P n → Q k → n <ℤ i → i <ℤ k → R i

-- the last day with P is the day before the first with Q
adjoin : {P Q R : ℤ → Type 0} {a b : ℕ} → Follows P Q R → (p : Days P (suc a)) (q : Days Q (suc b)) → p.last ≡ q.last -ℤ pos (suc b)
adjoin {P} {Q} {R} {a} {b} r p q = antisym no_later no_earlier
  where
    first : ℤ
    first = q.last -ℤ pos b

    gap : ℤ
    gap = q.last -ℤ pos (suc b)

    is_first_lem : Q first
    is_first_lem = q.place.counted b (omega arith)

    is_last : P p.last
    is_last = here p.place (omega arith)

    gap_is : first -ℤ pos 1 ≡ gap
    gap_is = back_add q.last b 1 ∙ ap (λ (k : ℕ). q.last -ℤ pos k) (add-one b)

    gap_before : gap <ℤ first
    gap_before = subst (λ (z : ℤ). z <ℤ first) gap_is (back_lt first)

    no_later : p.last ≤ℤ gap
    no_later = ⊎_elim (λ h. absurd (none_between (subst (λ (z : ℤ). z <ℤ p.last) (sym gap_is) h) (r.before p.last first is_last is_first_lem))) (λ h. h) (lt_or_ge gap p.last)

    no_earlier : gap ≤ℤ p.last
    no_earlier = ⊎_elim
        (λ h. absurd (⊎_elim (λ u. p.none_after gap h u) (λ u. q.place.none_before gap (≤ℤ_refl gap) u) (r.either gap (r.between p.last gap first is_last is_first_lem h gap_before))))
        (λ h. h) (lt_or_ge p.last gap)

-- their number is the sum
add_days : {P Q R : ℤ → Type 0} (a b : ℕ) → Follows P Q R → Days P a → Days Q b → Days R (a + b)
add_days {R = R} zero b r p q = subst (Days R) (omega arith) (same_days r.right (λ n u. ⊎_elim (λ v. absurd (none_of p n v)) (λ v. v) (r.either n u)) q)
add_days {R = R} (suc a) zero r p q = subst (Days R) (omega arith) (same_days r.left (λ n u. ⊎_elim (λ v. v) (λ v. absurd (none_of q n v)) (r.either n u)) p)
add_days {P} {Q} {R} (suc a) (suc b) r p q = record {
  last = q.last;
  place = record { counted = counted; none_before = none_before };
  none_after = λ d h u. ⊎_elim (λ v. clash_ℤ (r.before d q.last v is_last) (lt_le h)) (λ v. q.none_after d h v) (r.either d u);
}
  where
    is_last : Q q.last
    is_last = here q.place (omega arith)

    back : (j : ℕ) → p.last -ℤ pos j ≡ q.last -ℤ pos (suc b + j)
    back j = ap (λ (z : ℤ). z -ℤ pos j) (adjoin r p q) ∙ back_add q.last (suc b) j

    counted : (j : ℕ) → j < suc a + suc b → R (q.last -ℤ pos j)
    counted j h = ⊎_elim (λ g. r.right _ (q.place.counted j g))
        (λ g. r.left _ (subst P (back (j - suc b) ∙ ap (λ (k : ℕ). q.last -ℤ pos k) (rest g)) (p.place.counted (j - suc b) (omega arith))))
        (N.lt_or_ge j (suc b))
      where
        rest : suc b ≤ j → suc b + (j - suc b) ≡ j
        rest g = omega arith

    none_before : (d : ℤ) → d ≤ℤ (q.last -ℤ pos (suc a + suc b)) → R d → ⊥
    none_before d h u =
        let e : suc b + suc a ≡ suc a + suc b = omega arith in
        let g : d ≤ℤ (p.last -ℤ pos (suc a)) = subst (λ (z : ℤ). d ≤ℤ z) (sym (back (suc a) ∙ ap (λ (k : ℕ). q.last -ℤ pos k) e)) h in
        ⊎_elim (λ v. p.place.none_before d g v)
        (λ v. clash_ℤ (r.before p.last d (here p.place (omega arith)) v) (le_trans g (back_le p.last (suc a)))) (r.either d u)

-- ---- The months of a year

-- the year's days of its first m months
abbrev UpTo : (ℤ → Label) → ℤ → ℕ → ℤ → Type 0
UpTo f y m n = ((f n).year ≡ y) × ((f n).month ≤ m)

abbrev total : (ℕ → ℕ) → ℕ → ℕ
total k zero = 0
total k (suc m) = total k m + k (suc m)

module _ {f : ℤ → Label} (up : Rises f) (good : (n : ℤ) → Proper (f n)) (y : ℤ) where
  month_follows : (m : ℕ) → Follows (UpTo f y m) (λ n. OfMonth y (suc m) (f n)) (UpTo f y (suc m))
  month_follows m = record {
    left = λ n p. (p.0, omega (arith, p.1));
    right = λ n p. (p.0, omega (arith, p.1));
    either = λ n p. ⊎_elim (λ h. inl (p.0, omega arith)) (λ h. inr (p.0, omega (arith, p.1))) (N.lt_or_ge (f n).month (suc m));
    before = λ n k p q. up_back up (by_month (p.0 ∙ sym q.0) (omega (arith, p.1, q.1)));
    between = λ n i k p q h g.
        let e : (f i).year ≡ y = year_run up y n i k (lt_le h) (lt_le g) p.0 q.0 in
        (e, omega (arith, ≺-month (up i k g) (e ∙ sym q.0), q.1));
  }

  up_to : (k : ℕ → ℕ) → ((m : ℕ) → Month m → MonthLength f y m (k m)) → (m : ℕ) → m ≤ 12 → Days (UpTo f y m) (total k m)
  up_to k all zero h = record {
    last = pos 0;
    place = record { counted = λ j g. absurd (none j g); none_before = λ d g p. empty d p };
    none_after = λ d g p. empty d p;
  }
    where
      none : (j : ℕ) → j < 0 → ⊥
      none j g = omega arith

      empty : (d : ℤ) → UpTo f y 0 d → ⊥
      empty d p = omega (arith, p.1, (good d).0)
  up_to k all (suc m) h = add_days (total k m) (k (suc m)) (month_follows m) (up_to k all m (omega arith)) (all (suc m) (omega arith, h))

abbrev pub twelve_months : (ℕ → ℕ) → ℕ
twelve_months k = k 1 + k 2 + k 3 + k 4 + k 5 + k 6 + k 7 + k 8 + k 9 + k 10 + k 11 + k 12

-- of any labelling that rises, with months from 1 to 12: the lengths of the months of a year add up to its length
pub year_of_months : {f : ℤ → Label} → Rises f → ((n : ℤ) → Proper (f n)) → (y : ℤ) (k : ℕ → ℕ) → ((m : ℕ) → Month m → MonthLength f y m (k m)) → YearLength f y (twelve_months k)
year_of_months {f} up good y k all = subst (YearLength f y) same (same_days (λ n p. p.0) (λ n p. (p, (good n).1)) (up_to up good y k all 12 (omega arith)))
  where
    same : total k 12 ≡ twelve_months k
    same = omega arith

-- so what `len` answers for the months of a year adds up to what `year_length` answers
pub lengths_add_up : (c : Calendar) (y : ℤ) (k : ℕ → ℕ) {t : ℕ} → ((m : ℕ) → Month m → Len c y m (Ok (k m))) → YearLengthOf c y (Ok t) → t ≡ twelve_months k
lengths_add_up c y k all (passes a (number p)) = days_one p (year_of_months (accepted_rises a) (labels_proper (definition_of c)) y k (λ m v. is_len (all m v)))
  where
    is_len : {m n : ℕ} → Len c y m (Ok n) → MonthLength (labels c) y m n
    is_len (passes a (passes v (number p))) = p

-- ---- The position of a day, and the day of a position
place_nth : (f : ℤ → Label) {y : ℤ} {m d k : ℕ} {n : ℤ} → f n ≡ label y m d → DayOrdinal f n k → IsNth f y m k n
place_nth f {k = k} {n} e p = record { of_month = label_of_month e; place = subst (λ (l : Label). Place (λ i. OfMonth l.year l.month (f i)) n k) e p }

nth_place : (f : ℤ → Label) {y : ℤ} {m d k : ℕ} {n : ℤ} → f n ≡ label y m d → IsNth f y m k n → DayOrdinal f n k
nth_place f {k = k} {n} e p = subst (λ (l : Label). Place (λ i. OfMonth l.year l.month (f i)) n k) (sym e) p.place

module _ (c : Calendar) (y : ℤ) (m : ℕ) where
  -- `nth_day` of the position that `day_ordinal` answers is that day
  pub nth_of_place : {d k e : ℕ} → DayOrdinalOf c y m d (Ok k) → NthDay c y m k (Ok e) → e ≡ d
  nth_of_place {d} {k} {e} (passes a (passes v (passes i (passes s (number (n, q, p)))))) (passes b (passes w (passes o (number g)))) = nth_label_one (labels c) y m k e d g (n, place_nth (labels c) q p, q)

  -- and `day_ordinal` of the day that `nth_day` answers is the position
  pub place_of_nth : {d k j : ℕ} → NthDay c y m k (Ok d) → DayOrdinalOf c y m d (Ok j) → j ≡ k
  place_of_nth {d} {k} {j} (passes b (passes w (passes o (number (n, g, q))))) (passes a (passes v (passes i (passes s (number p))))) = place_of_one (accepted_rises a) j k p (n, q, nth_place (labels c) q g)

  -- `nth_date` of the position of a day answers what `at_ymd` answers for the day
  pub date_of_place : {d k : ℕ} {a : Result Date Refusal} → DayOrdinalOf c y m d (Ok k) → NthDate c y m k a → AtYmd c y m d a
  date_of_place (passes x (passes v (passes i (passes s (number (n, q, p)))))) (refuses f) = absurd (f x)
  date_of_place (passes x (passes v (passes i (passes s (number (n, q, p)))))) (passes b (refuses f)) = absurd (f v)
  date_of_place {k = k} (passes x (passes v (passes i (passes s (number (n, q, p)))))) (passes b (passes w (refuses (t, l, o)))) =
      let g : IsNth (labels c) y m k n = place_nth (labels c) q p in
      let r : (1 ≤ k) × (k ≤ t) = nth_within l g.of_month g.place in
      absurd (⊎_elim (λ u. never_low r.0 u) (λ u. never_high r.1 u) o)
    where
      never_low : {k : ℕ} → 1 ≤ k → k ≡ 0 → ⊥
      never_low h e = omega arith

      never_high : {k t : ℕ} → k ≤ t → t < k → ⊥
      never_high h g = omega arith
  date_of_place {a = a} (passes x (passes v (passes i (passes s (number (n, q, p)))))) (passes b (passes w (passes o (nth_record {n = j} g r)))) =
      passes x (passes v (passes i (passes s (on_label q (subst (λ (z : ℤ). Given c y z a) (is_nth_one g (place_nth (labels c) q p)) r)))))

  -- and the day of the record that `nth_date` answers has that position
  pub place_of_date : {k : ℕ} {t : Date} → NthDate c y m k (Ok t) → DayOrdinalOf c y m t.day (Ok k)
  place_of_date {k} {t} (passes x (passes v (passes o (nth_record {n} g (passes f (record_of p)))))) =
      let e : labels c n ≡ label y m t.day = p.label_is ∙ ap₂ (λ (z : ℤ) (i : ℕ). label z i t.day) (ap (λ (l : Label). l.year) (sym p.label_is) ∙ g.of_month.0) (ap (λ (l : Label). l.month) (sym p.label_is) ∙ g.of_month.1) in
      passes x (passes v (passes (λ i. i.0 (n, e)) (passes (λ s. skipped_nowhere x s (n, e)) (number (n, e, nth_place (labels c) e g)))))

  pub place_in_record : {k : ℕ} {t : Date} → NthDate c y m k (Ok t) → t.day_ordinal ≡ k
  place_in_record {k} (passes x (passes v (passes o (nth_record {n} g (passes f (record_of p)))))) =
      place_one p.day_ordinal_is (subst₂ (λ (z : ℤ) (i : ℕ). Place (λ j. OfMonth z i (labels c j)) n k) (sym g.of_month.0) (sym g.of_month.1) g.place)

-- ---- The first day past 32 bits is the fourth day of Gregorian June 5874898: `nth_date` refuses it 7
biased : BiasedYear 2_153_358_898
biased = record { from = omega arith; to = omega arith }

fourth_there : There G.leap_at 2_153_358_898 6 4
unfolding month_length
fourth_there = (omega arith, omega arith, omega arith, leb_yes tt)

past_32_bits : ¬ Is32Bit (pos 2_147_483_648)
past_32_bits f = let h : 2_147_483_648 < 0 + 2 ^ 31 = (unbias_fits_only 0 2_147_483_648 f).1 in omega (arith, h)

fourth_label : labels Gregorian (pos 2_147_483_648) ≡ label (pos 5_874_898) 6 4
unfolding month_length
fourth_label = on_new gregorian_runs 2_153_358_898 6 4 refl biased fourth_there (leb_yes tt)

fourth_place : DayOrdinal (labels Gregorian) (pos 2_147_483_648) 4
unfolding month_length
fourth_place = day_ordinal_at gregorian_runs 786_514_293_590 2_153_358_898 6 4 biased fourth_label (omega arith) (omega arith)

fourth_borne : Borne (labels Gregorian) (label (pos 5_874_898) 6 4)
fourth_borne = (pos 2_147_483_648, fourth_label)

-- the rows that a date which a day bears passes
borne : {A : Type 0} {r : Result A Refusal} {Below : Result A Refusal → Type 0} → Below r → OfAMonth Gregorian 6 (OfALabel Gregorian (pos 5_874_898) 6 4 Err Below) r
borne p = passes gregorian_accepted (passes (omega arith, omega arith) (passes (λ i. i.0 fourth_borne) (passes (λ s. skipped_nowhere gregorian_accepted s fourth_borne) p)))

pub fourth_of_june : {a : Result Date Refusal} → NthDate Gregorian (pos 5_874_898) 6 4 a → a ≡ refused 7 (pos 5_874_898)
fourth_of_june {a} h =
    at_ymd_one Gregorian (pos 5_874_898) 6 4 a (refused 7 (pos 5_874_898))
    (date_of_place Gregorian (pos 5_874_898) 6 (borne (number (pos 2_147_483_648, fourth_label, fourth_place))) h) (borne (on_label fourth_label (refuses past_32_bits)))
