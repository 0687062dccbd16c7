-- Two results that a promise allows for one input are equal: a theorem for each promise.
-- Assumes nothing.
use Rattle.std.specs.Prelude.{◌≡◌, refl, Bool, ℕ, ℤ, Ok, Some}
use Rattle.std.proofs.Common.{sym, ◌∙◌, ap, subst}
use Rattle.whole.specs.One.{whether_one}
use Rattle.days.specs.DayByDay.{Label, label, Timeline, labels_in, Rises}
use Rattle.days.proofs.RisingLabels.{once, place_one, nth_one}
use Rattle.days.proofs.AcceptedCalendars.{accepted_rises}
use Rattle.days.proofs.ReformationTable.{judged_one}
use Rattle.days.proofs.ClosedRuns.{runs_one}
use Rattle.calendar.specs.declared.Calendar.{Calendar}
use Rattle.calendar.specs.declared.Calendar.TheVariants as Calendar'
use Rattle.calendar.specs.declared.Style.{Style}
use Rattle.calendar.specs.declared.Date.{Date}
use Rattle.calendar.specs.Calendars.{timeline, IsRecordIn, Genuine}
use Rattle.calendar.specs.RowLaws.{One, unless_one, if_one, answers_one}
use Rattle.calendar.specs.Promise.{outcome_is, Reforms, judged, RecordOfIn, record_of, AtJdn, GivenIn, Given, OnLabelIn, on_label, YmdIn, AtYmd, OnOrdinalIn, on_ordinal, OrdinalIn, AtOrdinal, TellsCalendar, ReformationOf, reform_day_value, ReformRecord, never_julian, never_gregorian, reform_record, LastJulian, FirstGregorian, IsGenuine, TellsDate, CountsDate, Next, ConvertsTo}
use Rattle.calendar.specs.Natural.{SwitchIs, switches_at, no_calendar}

-- ---- A day has one record
unfoldable pub whole : Calendar → ℤ → ℕ → ℕ → ℕ → ℕ → ℤ → Style → Date
whole c y o m d b j v = record { calendar = c; year = y; ordinal = o; month = m; day = d; day_ordinal = b; jdn = j; style = v }

pub record_one : {t : Timeline} {c : Calendar} {n : ℤ} {r s : Date} → IsRecordIn t c n r → IsRecordIn t c n s → r ≡ s
unfolding whole
record_one {r = r} {s} p q =
    let l : label r.year r.month r.day ≡ label s.year s.month s.day = sym p.label_is ∙ q.label_is in
    let y : r.year ≡ s.year = ap (λ (l : Label). l.year) l in
    let m : r.month ≡ s.month = ap (λ (l : Label). l.month) l in
    let d : r.day ≡ s.day = ap (λ (l : Label). l.day) l in
    let o : r.ordinal ≡ s.ordinal = place_one p.ordinal_is q.ordinal_is in
    let b : r.day_ordinal ≡ s.day_ordinal = place_one p.day_ordinal_is q.day_ordinal_is in
    let k : r.calendar ≡ s.calendar = p.calendar_is ∙ sym q.calendar_is in
    let j : r.jdn ≡ s.jdn = p.day_is ∙ sym q.day_is in
    let v : r.style ≡ s.style = p.style_is ∙ sym q.style_is in
    let e : whole r.calendar r.year r.ordinal r.month r.day r.day_ordinal r.jdn r.style
    ≡ whole s.calendar s.year s.ordinal s.month s.day s.day_ordinal s.jdn s.style = cc in
    e

record_of_one : (t : Timeline) (c : Calendar) (n : ℤ) → One (RecordOfIn t c n)
record_of_one t c n a b (record_of p) (record_of q) = ap Ok (record_one p q)

-- ---- Reformations
pub reforms_one : (r : ℤ) → One (Reforms r)
reforms_one r a b (judged p) (judged q) = ap (outcome_is r) (judged_one p q)

-- ---- Dates
pub at_jdn_one : (c : Calendar) (n : ℤ) → One (AtJdn c n)
at_jdn_one c n = unless_one (λ a. record_of_one (timeline c) c n)

module _ (t : Timeline) (c : Calendar) where
  given_in_one : (y n : ℤ) → One (GivenIn t c y n)
  given_in_one y n = unless_one (λ f. record_of_one t c n)

  on_label_one : Rises (labels_in t) → (l : Label) → One (OnLabelIn t c l)
  on_label_one up l a b (on_label {n} e p) (on_label {n = m} f q) =
      let w : m ≡ n = once up (f ∙ sym e) in
      given_in_one l.year n a b p (subst (λ (k : ℤ). GivenIn t c l.year k b) w q)

  pub ymd_in_one : Rises (labels_in t) → (y : ℤ) (m d : ℕ) → One (YmdIn t c y m d)
  ymd_in_one up y m d = unless_one (λ v. if_one (λ n. if_one (λ s. on_label_one up (label y m d))))

  on_ordinal_one : (y : ℤ) (o : ℕ) → One (OnOrdinalIn t c y o)
  on_ordinal_one y o a b (on_ordinal {n} u e p) (on_ordinal {n = m} v f q) =
      let w : m ≡ n = nth_one v f u e in
      given_in_one y n a b p (subst (λ (k : ℤ). GivenIn t c y k b) w q)

  pub ordinal_in_one : (y : ℤ) (o : ℕ) → One (OrdinalIn t c y o)
  ordinal_in_one y o = if_one (λ n. on_ordinal_one y o)

pub given_one : (c : Calendar) (y n : ℤ) → One (Given c y n)
given_one c = given_in_one (timeline c) c

pub at_ymd_one : (c : Calendar) (y : ℤ) (m d : ℕ) → One (AtYmd c y m d)
at_ymd_one c y m d = unless_one (λ a. ymd_in_one (timeline c) c (accepted_rises a) y m d)

pub at_ordinal_one : (c : Calendar) (y : ℤ) (o : ℕ) → One (AtOrdinal c y o)
at_ordinal_one c y o = unless_one (λ a. ordinal_in_one (timeline c) c y o)

-- ---- Of a calendar
pub switch_one : (c : Calendar) → One (SwitchIs c)
switch_one c a b (switches_at p) (switches_at q) = ap Ok (runs_one p q)
switch_one c a b (switches_at p) (no_calendar n) = absurd (n p.accepted)
switch_one c a b (no_calendar n) (switches_at q) = absurd (n q.accepted)
switch_one c a b (no_calendar n) (no_calendar m) = refl

pub tells_calendar_one : (c : Calendar) (b : Bool) → One (TellsCalendar c b)
tells_calendar_one c b = unless_one (λ a. answers_one _)

pub reformation_one : (c : Calendar) → One (ReformationOf c)
reformation_one c = unless_one (λ a. answers_one (Ok (reform_day_value c)))

reform_record_one : (before : ℤ) (c : Calendar) → One (ReformRecord before c)
reform_record_one before Calendar'.Julian a b never_julian never_julian = refl
reform_record_one before Calendar'.Gregorian a b never_gregorian never_gregorian = refl
reform_record_one before (Calendar'.Reforming r) a b (reform_record p) (reform_record q) = ap (λ (d : Date). Ok (Some d)) (record_one p q)

pub last_julian_one : (c : Calendar) → One (LastJulian c)
last_julian_one c = unless_one (λ a. reform_record_one _ c)

pub first_gregorian_one : (c : Calendar) → One (FirstGregorian c)
first_gregorian_one c = unless_one (λ a. reform_record_one _ c)

-- ---- Of a date
pub is_genuine_one : (d : Date) → One (IsGenuine d)
is_genuine_one d = whether_one (Genuine d)

pub tells_date_one : (d : Date) (b : Bool) → One (TellsDate d b)
tells_date_one d b = unless_one (λ g. answers_one _)

pub counts_date_one : (d : Date) (n : ℕ) → One (CountsDate d n)
counts_date_one d n = unless_one (λ g. answers_one _)

pub next_one : (d : Date) (n : ℤ) → One (Next d n)
next_one d n = unless_one (λ g. unless_one (λ f. record_of_one (timeline d.calendar) d.calendar n))

pub converts_one : (d : Date) (c : Calendar) → One (ConvertsTo d c)
converts_one d c = unless_one (λ g. record_of_one (timeline c) c d.jdn)
