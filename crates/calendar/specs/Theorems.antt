-- What follows from the promises of the calendar calls, for every accepted calendar.
-- Assumes nothing.
use Rattle.std.specs.Prelude.{◌≡◌, refl, ℕ, ◌≤◌, ◌<◌, ℤ, Result, Ok, Err}
use Rattle.std.proofs.Common.{sym, ◌∙◌, ap, subst, ⊎_elim, arith}
use Rattle.std.proofs.Math.IntN.{suc_ℤ, pred_ℤ, pred-suc, suc-pred}
use Rattle.days.specs.DayByDay.{Label, label, Timeline, labels_in, style_in, OfYear, Place, Is32Bit, Month, Rising}
use Rattle.days.proofs.RisingLabels.{once, nth_one, nth_within}
use Rattle.days.proofs.RisingTimelines.{rising_rises, timeline_proper, skipped_in_nowhere}
use Rattle.days.proofs.RisingPlaces.{has_ordinal, has_day_ordinal}
use Rattle.days.proofs.AcceptedCalendars.{accepted_rises}
use Rattle.days.proofs.AcceptedYears.{accepted_rising}
use Rattle.calendar.specs.declared.Calendar.{Calendar}
use Rattle.calendar.specs.declared.Date.{Date}
use Rattle.refusals.specs.declared.Refusal.{Refusal}
use Rattle.calendar.specs.Calendars.{timeline, labels, Accepted, style_of, IsRecordIn, IsRecord, Genuine}
use Rattle.calendar.specs.Rows.{refuses, passes}
use Rattle.calendar.specs.RowLaws.{passed}
use Rattle.calendar.specs.Promise.{record_of, AtJdn, GivenIn, on_label, YmdIn, AtYmd, on_ordinal, OrdinalIn, AtOrdinal, Next}
use Rattle.calendar.specs.One.{record_one, at_jdn_one}

-- ---- Any timeline that rises
module _ (t : Timeline) (c : Calendar) where
  -- a is the record of day n
  abbrev pub IsRecordOfIn : ℤ → Result Date Refusal → Type 0
  IsRecordOfIn n a = (d : Date) × (a ≡ Ok d) × IsRecordIn t c n d

  given_is : {y n : ℤ} {a : Result Date Refusal} → Is32Bit n → GivenIn t c y n a → IsRecordOfIn n a
  given_is f (refuses x) = absurd (x f)
  given_is f (passes g (record_of i)) = (_, refl, i)

  given_only : {y n : ℤ} {d : Date} → GivenIn t c y n (Ok d) → Is32Bit n × IsRecordIn t c n d
  given_only (passes g (record_of i)) = (g, i)

  module _ (r : Rising t) where
    -- year, month and day are accepted exactly if a 32-bit day bears them; the record is that day's
    pub ymd_in_accepts : {y : ℤ} {m d : ℕ} {n : ℤ} {a : Result Date Refusal} → Is32Bit n → labels_in t n ≡ label y m d → YmdIn t c y m d a → IsRecordOfIn n a
    ymd_in_accepts {n = n} f e (refuses v) = let p = timeline_proper t n in absurd (v (subst (λ (l : Label). Month l.month) e (p.0, p.1)))
    ymd_in_accepts {n = n} f e (passes v (refuses k)) = absurd (k.0 (n, e))
    ymd_in_accepts {n = n} f e (passes v (passes k (refuses s))) = absurd (skipped_in_nowhere r s (n, e))
    ymd_in_accepts {y} {n = n} {a} f e (passes v (passes k (passes s (on_label {n = i} q g)))) =
        let w : i ≡ n = once (rising_rises r) (q ∙ sym e) in
        given_is f (subst (λ (j : ℤ). GivenIn t c y j a) w g)

    pub ymd_in_only : {y : ℤ} {m d : ℕ} {b : Date} → YmdIn t c y m d (Ok b) → (n : ℤ) × Is32Bit n × (labels_in t n ≡ label y m d) × IsRecordIn t c n b
    ymd_in_only (passes v (passes k (passes s (on_label {n = i} q g)))) = let (f, p) = given_only g in (i, f, q, p)

    -- so are year and ordinal
    pub ordinal_in_accepts : {y : ℤ} {o : ℕ} {n : ℤ} {a : Result Date Refusal} → Is32Bit n → OfYear y (labels_in t n) → Place (λ i. OfYear y (labels_in t i)) n o → OrdinalIn t c y o a → IsRecordOfIn n a
    ordinal_in_accepts {o = o} f u p (refuses (k, days, off)) = let (i, j) = nth_within days u p in absurd (⊎_elim (λ e. low i e) (λ h. high j h) off)
      where
        low : 1 ≤ o → o ≡ 0 → ⊥
        low i e = omega arith

        high : {k : ℕ} → o ≤ k → k < o → ⊥
        high i h = omega arith
    ordinal_in_accepts {y} {n = n} {a} f u p (passes k (on_ordinal v q g)) = given_is f (subst (λ (j : ℤ). GivenIn t c y j a) (nth_one v q u p) g)

    pub ordinal_in_only : {y : ℤ} {o : ℕ} {b : Date} → OrdinalIn t c y o (Ok b) → (n : ℤ) × Is32Bit n × OfYear y (labels_in t n) × Place (λ i. OfYear y (labels_in t i)) n o × IsRecordIn t c n b
    ordinal_in_only (passes k (on_ordinal {n} v q g)) = let (f, p) = given_only g in (n, f, v, q, p)

-- every day has its record
pub has_record : (t : Timeline) → Rising t → (c : Calendar) (n : ℤ) → (d : Date) × IsRecordIn t c n d
has_record t r c n =
    let l : Label = labels_in t n in
    let (o, p) = has_ordinal r n in
    let (b, q) = has_day_ordinal r n in (
      record { calendar = c; year = l.year; ordinal = o; month = l.month; day = l.day; day_ordinal = b; jdn = n; style = style_of (style_in t n) },
      record { calendar_is = refl; label_is = refl; ordinal_is = p; day_ordinal_is = q; day_is = refl; style_is = refl },
    )

-- ---- Every accepted calendar
abbrev pub IsRecordOf : Calendar → ℤ → Result Date Refusal → Type 0
IsRecordOf c = IsRecordOfIn (timeline c) c

-- no other day bears a year, a month and a day
pub ymd_one_day : (c : Calendar) → Accepted c → {l : Label} {n k : ℤ} → labels c n ≡ l → labels c k ≡ l → n ≡ k
ymd_one_day c acc e f = once (accepted_rises acc) (e ∙ sym f)

pub ordinal_one_day : (c : Calendar) {y n k : ℤ} {o : ℕ} → OfYear y (labels c n) → Place (λ i. OfYear y (labels c i)) n o → OfYear y (labels c k) → Place (λ i. OfYear y (labels c i)) k o → n ≡ k
ordinal_one_day c u p v q = nth_one u p v q

module _ (c : Calendar) (acc : Accepted c) where
  pub ymd_accepts : {y : ℤ} {m d : ℕ} {n : ℤ} {a : Result Date Refusal} → Is32Bit n → labels c n ≡ label y m d → AtYmd c y m d a → IsRecordOf c n a
  ymd_accepts f e p = ymd_in_accepts (timeline c) c (accepted_rising acc) f e (passed acc p)

  pub ymd_only : {y : ℤ} {m d : ℕ} {b : Date} → AtYmd c y m d (Ok b) → (n : ℤ) × Is32Bit n × (labels c n ≡ label y m d) × IsRecord c n b
  ymd_only p = ymd_in_only (timeline c) c (accepted_rising acc) (passed acc p)

  pub ordinal_accepts : {y : ℤ} {o : ℕ} {n : ℤ} {a : Result Date Refusal} → Is32Bit n → OfYear y (labels c n) → Place (λ i. OfYear y (labels c i)) n o → AtOrdinal c y o a → IsRecordOf c n a
  ordinal_accepts f u q p = ordinal_in_accepts (timeline c) c (accepted_rising acc) f u q (passed acc p)

  pub ordinal_only : {y : ℤ} {o : ℕ} {b : Date} → AtOrdinal c y o (Ok b) → (n : ℤ) × Is32Bit n × OfYear y (labels c n) × Place (λ i. OfYear y (labels c i)) n o × IsRecord c n b
  ordinal_only p = ordinal_in_only (timeline c) c (accepted_rising acc) (passed acc p)

-- ---- A record is genuine exactly if its accepted calendar gives it for its day number
pub genuine_given : (d : Date) → Genuine d → AtJdn d.calendar d.jdn (Ok d)
genuine_given d g = passes g.accepted (record_of g.is_record)

pub given_genuine : (d : Date) → AtJdn d.calendar d.jdn (Ok d) → Genuine d
given_genuine d (passes x (record_of i)) = record { accepted = x; is_record = i }

-- every record that is given is genuine
pub record_genuine : {c : Calendar} {n : ℤ} {t : Date} → Accepted c → IsRecord c n t → Genuine t
record_genuine {c} {t = t} acc i = record {
  accepted = subst Accepted (sym i.calendar_is) acc;
  is_record = subst (λ (k : Calendar). IsRecord k t.jdn t) (sym i.calendar_is) (subst (λ (j : ℤ). IsRecord c j t) (sym i.day_is) i);
}

-- an accepted calendar refuses no day
pub never_refused : {c : Calendar} {n : ℤ} {f : Refusal} → Accepted c → AtJdn c n (Err f) → ⊥
never_refused a (refuses x) = x a
never_refused {c = c} {n = n} {f = f} a (passes _ x3) = elim x3 [ ]

-- ---- at_jdn after at_ymd gives the same record, and the other way round
pub jdn_after_ymd : (c : Calendar) → Accepted c → {y : ℤ} {m d : ℕ} {t : Date} {a : Result Date Refusal} → AtYmd c y m d (Ok t) → AtJdn c t.jdn a → a ≡ Ok t
jdn_after_ymd c acc {t = t} {a} p q =
    let (n, f, e, i) = ymd_only c acc p in
    at_jdn_one c t.jdn a (Ok t) q (passes acc (record_of (subst (λ (j : ℤ). IsRecord c j t) (sym i.day_is) i)))

pub ymd_after_jdn : (c : Calendar) → Accepted c → {n : ℤ} {t : Date} {a : Result Date Refusal} → Is32Bit n → AtJdn c n (Ok t) → AtYmd c t.year t.month t.day a → a ≡ Ok t
ymd_after_jdn c acc f (passes x (record_of i)) q =
    let (s, e, j) = ymd_accepts c acc f i.label_is q in
    e ∙ ap Ok (record_one j i)

-- ---- succ and pred undo one another where both answer
next_only : (d : Date) {t : Date} {n : ℤ} → Next d n (Ok t) → Genuine d × IsRecord d.calendar n t
next_only d (passes g (passes f (record_of i))) = (g, i)

undone : (d t : Date) {s : Date} {n k : ℤ} → Genuine d → IsRecord d.calendar n t → k ≡ d.jdn → IsRecord t.calendar k s → s ≡ d
undone d t {s} g i e j =
    record_one (subst (λ (c : Calendar). IsRecord c d.jdn s) i.calendar_is (subst (λ (k : ℤ). IsRecord t.calendar k s) e j)) g.is_record

pub pred_after_succ : (d t : Date) {s : Date} → Next d (suc_ℤ d.jdn) (Ok t) → Next t (pred_ℤ t.jdn) (Ok s) → s ≡ d
pred_after_succ d t p q =
    let (g, i) = next_only d p in
    let (h, j) = next_only t q in
    undone d t g i (ap pred_ℤ i.day_is ∙ pred-suc d.jdn) j

pub succ_after_pred : (d t : Date) {s : Date} → Next d (pred_ℤ d.jdn) (Ok t) → Next t (suc_ℤ t.jdn) (Ok s) → s ≡ d
succ_after_pred d t p q =
    let (g, i) = next_only d p in
    let (h, j) = next_only t q in
    undone d t g i (ap suc_ℤ i.day_is ∙ suc-pred d.jdn) j
