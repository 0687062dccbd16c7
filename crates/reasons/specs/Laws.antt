-- What the proofs need: from the answers of the calls below to the reasons.
use Rattle.std.specs.Prelude.{◌≡◌, refl, Bool, true, false, not, cond, List, ◌⊎◌, ℕ, suc, ◌+◌, ◌<◌, ℤ, pos, negsuc, ◌-ℤ◌, take, ◌<ℤ◌, ◌≤ℤ◌, Result, Ok, Err, is_err, IsOk, Option, Some, IsSome}
use Rattle.std.proofs.Common.{sym, ◌∙◌, ap, subst, ⊎_elim, arith, eq-eqb, ne_eqb}
use Rattle.std.proofs.Math.IntN.{+ℤ_idr}
use Rattle.std.specs.Int.Signed.{le_z_yes}
use Rattle.whole.specs.Promise.{is_negative_value}
use Rattle.whole.specs.Whether.{Whether}
use Rattle.whole.specs.Integers.{lt_or_ge, lt_le, le_trans}
use Rattle.whole.specs.Edge.{fits_between}
use Rattle.refusals.specs.declared.Refusal.{Refusal}
use Rattle.refusals.specs.Promise.{refusal}
use Rattle.days.specs.DayByDay.{Label, label, Timeline, Is32Bit, SwitchDay, this, later, MissingIn, Month}
use Rattle.days.proofs.AcceptedCalendars.{accepted_rises, no_switch}
use Rattle.days.proofs.RisingLabels.{no_earlier_year, days_one}
use Rattle.days.proofs.AcceptedYears.{least_label, greatest_label}
use Rattle.days.proofs.KnownDays.{known_days}
use Rattle.calendar.specs.declared.Calendar.{Calendar}
use Rattle.calendar.specs.declared.Calendar.TheVariants as Calendar'
use Rattle.calendar.specs.declared.Date.{Date}
use Rattle.calendar.specs.Calendars.{definition_of, timeline, labels, Accepted, IsRecordIn, IsRecord, Skipped}
use Rattle.calendar.specs.Rows.{Unless, refuses, passes}
use Rattle.calendar.specs.Promise.{made_up, RecordOfIn, record_of, AtYmd, on_label, AtOrdinal, on_ordinal, OffYear, LastJulian, FirstGregorian, ReformRecord, reform_record, never_julian, never_gregorian}
use Rattle.months.specs.Promise.{number, YearLengthOf}
use Rattle.monthruns.specs.declared.Runs.{Runs}
use Rattle.monthruns.specs.Promise.{are_runs, RunsOf}
use Rattle.numbertext.specs.Numerals.{NoSigned, NoNumber, NoDash, TooFar}
use Rattle.numbertext.specs.Promise.{SignedAt, SignedFrom, At}
use Rattle.numbertext.specs.One.{signed_one}
use Rattle.datetext.specs.Grammar.{OrdinalText, YmdText, Fault}
use Rattle.datetext.specs.Promise.{ReadDate}
use Rattle.datetext.specs.declared.Text.{Text}
use Rattle.datetext.proofs.Theorems as T
use Rattle.expected.specs.declared.Expected.{Expected}
use Rattle.expected.specs.Promise.{Expects}
use Rattle.reasons.specs.declared.Reason.{Reason}
use Rattle.reasons.specs.declared.Reason.TheVariants as Reason'
use Rattle.reasons.specs.Promise.{rule_of, Passes, OnDay, Gap, OfYmd, OfOrdinal, mended_at_value, OfFault}

-- ---- Which end a day passes

year_is : {l m : Label} → l ≡ m → l.year ≡ m.year
year_is e = ap (λ (l : Label). l.year) e

module _ (c : Calendar) (a : Accepted c) (n : ℤ) where
  -- the year of a day past the last 32-bit day is not negative, and that of a day before the first one is
  late_year : pos 2_147_483_647 <ℤ n → pos 0 ≤ℤ (labels c n).year
  late_year h = le_trans greatest (no_earlier_year (accepted_rises a) (lt_le h))
    where
      greatest : pos 0 ≤ℤ (labels c (pos 2_147_483_647)).year
      greatest = ⊎_elim
          (λ e. subst (λ (y : ℤ). pos 0 ≤ℤ y) (sym (year_is (e ∙ known_days.greatest_julian.0))) (le_z_yes tt))
          (λ e. subst (λ (y : ℤ). pos 0 ≤ℤ y) (sym (year_is (e ∙ known_days.greatest_gregorian.0))) (le_z_yes tt))
          (greatest_label (definition_of c))

  early_year : n <ℤ negsuc 2_147_483_647 → (labels c n).year ≤ℤ negsuc 0
  early_year h = le_trans (no_earlier_year (accepted_rises a) (lt_le h)) least
    where
      least : (labels c (negsuc 2_147_483_647)).year ≤ℤ negsuc 0
      least = ⊎_elim
          (λ e. subst (λ (y : ℤ). y ≤ℤ negsuc 0) (sym (year_is (e ∙ known_days.least_julian.0))) (le_z_yes tt))
          (λ e. subst (λ (y : ℤ). y ≤ℤ negsuc 0) (sym (year_is (e ∙ known_days.least_gregorian.0))) (le_z_yes tt))
          (least_label (definition_of c))

  end_passed : (y : ℤ) → (labels c n).year ≡ y → ¬ Is32Bit n → Passes (not (is_negative_value y)) n
  end_passed (pos y) e out = ⊎_elim (λ h. h) (λ h. absurd (out (fits_between (not_early h) h))) (lt_or_ge (pos 2_147_483_647) n)
    where
      not_early : n ≤ℤ pos 2_147_483_647 → negsuc 2_147_483_647 ≤ℤ n
      not_early h = ⊎_elim (λ g. absurd (never (subst (λ (y : ℤ). y ≤ℤ negsuc 0) e (early_year g)))) (λ g. g) (lt_or_ge n (negsuc 2_147_483_647))
        where
          never : pos y ≤ℤ negsuc 0 → ⊥
          never k = k.le
  end_passed (negsuc y) e out = ⊎_elim (λ h. h) (λ h. absurd (out (fits_between h (not_late h)))) (lt_or_ge n (negsuc 2_147_483_647))
    where
      not_late : negsuc 2_147_483_647 ≤ℤ n → n ≤ℤ pos 2_147_483_647
      not_late h = ⊎_elim (λ g. absurd (never (subst (λ (y : ℤ). pos 0 ≤ℤ y) e (late_year g)))) (λ g. g) (lt_or_ge (pos 2_147_483_647) n)
        where
          never : pos 0 ≤ℤ negsuc y → ⊥
          never k = k.le

-- ---- What is said of a record and of a number

is_record : {t : Timeline} {c : Calendar} {n : ℤ} {d : Date} → RecordOfIn t c n (Ok d) → IsRecordIn t c n d
is_record (record_of p) = p

not_ten : {at : ℕ} {u : List ℕ} {f : Refusal} → NoNumber at u f → f.number ≡ 10 → ⊥
not_ten NoNumber.ended e = omega arith
not_ten (NoNumber.other x) e = omega arith
not_ten (NoNumber.above (TooFar.too_far x y z)) e = omega arith

-- ---- A year, a month and a day

module _ (c : Calendar) (a : Accepted c) (y : ℤ) (m d k : ℕ) (v : Month m) where
  pub ymd_date : {r : Date} → AtYmd c y m d (Ok r) → OfYmd (timeline c) c y m d k (Reason'.Accepted r (rule_of r.style r.year))
  ymd_date (passes b (passes w (passes f (passes g (on_label e (passes i p)))))) = OfYmd.borne e (OnDay.accepted i (is_record p))

  pub ymd_missing : {f : Refusal} → AtYmd c y m d (Err f) → f.number ≡ 4 → MissingIn (timeline c) (label y m d)
  ymd_missing (refuses n) e = absurd (n a)
  ymd_missing (passes b (refuses n)) e = absurd (n v)
  ymd_missing (passes b (passes w (refuses n))) e = n
  ymd_missing (passes b (passes w (passes f (refuses n)))) e = absurd (omega arith)
  ymd_missing (passes b (passes w (passes f (passes g (on_label i (refuses n)))))) e = absurd (omega arith)
  ymd_missing (passes b (passes w (passes f (passes g (on_label i (passes _ x)))))) e = elim x [ ]

  pub ymd_skipped : {f : Refusal} → AtYmd c y m d (Err f) → f.number ≡ 5 → Skipped c (label y m d)
  ymd_skipped (refuses n) e = absurd (n a)
  ymd_skipped (passes b (refuses n)) e = absurd (n v)
  ymd_skipped (passes b (passes w (refuses n))) e = absurd (omega arith)
  ymd_skipped (passes b (passes w (passes f (refuses n)))) e = n
  ymd_skipped (passes b (passes w (passes f (passes g (on_label i (refuses n)))))) e = absurd (omega arith)
  ymd_skipped (passes b (passes w (passes f (passes g (on_label i (passes _ x)))))) e = elim x [ ]

  pub ymd_outside : {f : Refusal} → AtYmd c y m d (Err f) → ¬ (f.number ≡ 4) → ¬ (f.number ≡ 5) → OfYmd (timeline c) c y m d k (Reason'.Outside (refusal 7 0 y) (not (is_negative_value y)))
  ymd_outside (refuses n) h i = absurd (n a)
  ymd_outside (passes b (refuses n)) h i = absurd (n v)
  ymd_outside (passes b (passes w (refuses n))) h i = absurd (h refl)
  ymd_outside (passes b (passes w (passes f (refuses n)))) h i = absurd (i refl)
  ymd_outside (passes b (passes w (passes f (passes g (on_label {n} e (refuses out)))))) h i = OfYmd.borne e (OnDay.outside {above = not (is_negative_value y)} (end_passed c a n y (year_is e) out))
  ymd_outside (passes b (passes w (passes f (passes g (on_label e (passes _ x)))))) h i = elim x [ ]

  pub missing_row : {r : Runs} → MissingIn (timeline c) (label y m d) → RunsOf c y m (Ok r) → OfYmd (timeline c) c y m d k (Reason'.Missing (refusal 4 k (pos d)) y m r)
  missing_row n (passes b (passes w (are_runs p))) = OfYmd.missing n p

  pub runs_told : {r : Result Runs Refusal} → RunsOf c y m r → IsOk r
  runs_told (refuses n) = absurd (n a)
  runs_told (passes b (refuses n)) = absurd (n v)
  runs_told (passes b (passes w (are_runs p))) = refl

-- ---- The gap of a skipped label, which is at the one switch of the calendar

abbrev pub SkipsSome : Calendar → Type 0
SkipsSome c = (l : Label) × Skipped c l

pub data AroundGap (c : Calendar) (d k : ℕ) : Reason → Type 0 where
  around_gap : {before after : Date} → ((l : Label) → Skipped c l → Gap (timeline c) c l before after) → AroundGap c d k (Reason'.Skipped (refusal 5 k (pos d)) before after)

only_switch : {r : ℤ} {l : Label} (s : Skipped (Calendar'.Reforming r) l) → r ≡ s.switch
only_switch {r} s = by s.switches
  where
    by : {d : ℤ} → SwitchDay (timeline (Calendar'.Reforming r)).switches d → r ≡ d
    by this = refl
    by (later x) = absurd (no_switch x)

pub gap_sides : {c : Calendar} {b e : Date} → LastJulian c (Ok (Some b)) → FirstGregorian c (Ok (Some e)) → (l : Label) → Skipped c l → Gap (timeline c) c l b e
gap_sides {b = b} {e} (passes x (reform_record {r} p)) (passes z (reform_record q)) l s = record {
  skipped = s;
  last_before = subst (λ (n : ℤ). IsRecord (Calendar'.Reforming r) (n -ℤ pos 1) b) (only_switch s) p;
  first_after = subst (λ (n : ℤ). IsRecord (Calendar'.Reforming r) n e) (+ℤ_idr r ∙ only_switch s) q;
}

-- a calendar that skips some label has both sides
pub side_told : {i : ℤ} (c : Calendar) {r : Result (Option Date) Refusal} → Accepted c → Unless (Accepted c) (Err made_up) (ReformRecord i c) r → IsOk r
side_told c a (refuses n) = absurd (n a)
side_told c a (passes x never_julian) = refl
side_told c a (passes x never_gregorian) = refl
side_told c a (passes x (reform_record p)) = refl

pub side_there : {i : ℤ} (c : Calendar) {o : Option Date} → SkipsSome c → Unless (Accepted c) (Err made_up) (ReformRecord i c) (Ok o) → IsSome o
side_there c s (passes x p) = by p s
  where
    by : {i : ℤ} {c : Calendar} {o : Option Date} → ReformRecord i c (Ok o) → SkipsSome c → IsSome o
    by never_julian (l, s) = absurd (no_switch s.switches)
    by never_gregorian (l, s) = absurd (no_switch s.switches)
    by (reform_record p) s = refl

pub skipped_ymd : {c : Calendar} {y : ℤ} {m d k : ℕ} {r : Reason} → Skipped c (label y m d) → AroundGap c d k r → OfYmd (timeline c) c y m d k r
skipped_ymd s (AroundGap.around_gap g) = OfYmd.skipped (g _ s)

-- ---- A year and an ordinal

module _ (c : Calendar) (a : Accepted c) (y : ℤ) (o k : ℕ) where
  pub ordinal_date : {r : Date} → AtOrdinal c y o (Ok r) → OfOrdinal (timeline c) c y o k (Reason'.Accepted r (rule_of r.style r.year))
  ordinal_date (passes b (passes f (on_ordinal e p (passes i q)))) = OfOrdinal.in_year e p (OnDay.accepted i (is_record q))

  pub ordinal_off : {f : Refusal} → AtOrdinal c y o (Err f) → f.number ≡ 6 → OffYear c y o
  ordinal_off (refuses n) e = absurd (n a)
  ordinal_off (passes b (refuses n)) e = n
  ordinal_off (passes b (passes f (on_ordinal i p (refuses n)))) e = absurd (omega arith)
  ordinal_off (passes b (passes f (on_ordinal i p (passes _ x)))) e = elim x [ ]

  pub ordinal_outside : {f : Refusal} → AtOrdinal c y o (Err f) → ¬ (f.number ≡ 6) → OfOrdinal (timeline c) c y o k (Reason'.Outside (refusal 7 0 y) (not (is_negative_value y)))
  ordinal_outside (refuses n) h = absurd (n a)
  ordinal_outside (passes b (refuses n)) h = absurd (h refl)
  ordinal_outside (passes b (passes f (on_ordinal {n} e p (refuses out)))) h = OfOrdinal.in_year e p (OnDay.outside {above = not (is_negative_value y)} (end_passed c a n y e out))
  ordinal_outside (passes b (passes f (on_ordinal e p (passes _ x)))) h = elim x [ ]

  pub length_row : {l : ℕ} → OffYear c y o → YearLengthOf c y (Ok l) → OfOrdinal (timeline c) c y o k (Reason'.OffYear (refusal 6 k (pos o)) y l)
  length_row (n, p, h) (passes b (number q)) = OfOrdinal.off_year q (subst (λ (n : ℕ). (o ≡ 0) ⊎ (n < o)) (days_one p q) h)

  pub length_told : {r : Result ℕ Refusal} → YearLengthOf c y r → IsOk r
  length_told (refuses n) = absurd (n a)
  length_told (passes b (number q)) = refl

-- ---- A text that is no date

-- whether the first fault of the text s is one of its year
abbrev pub YearFault : List ℕ → Bool → Type 0
YearFault s b = (f : Refusal) → Fault s f → Whether (NoSigned 0 s f) b

pub no_year : {s : List ℕ} {g : Refusal} → SignedAt s 0 (Err g) → YearFault s true
no_year {s} (At.within h (SignedFrom.no_number n)) f p = subst (NoSigned 0 s) (T.one_fault (Fault.at_year n) p) n
no_year (At.past h) f p = absurd (omega arith)

pub some_year : {s : List ℕ} {y : ℤ} {i : ℕ} → SignedAt s 0 (Ok (y, i)) → YearFault s false
some_year {s} {y} {i} p f q n =
    let e : ◌≡◌ {A = Result (ℤ × ℕ) Refusal} (Ok (y, i)) (Err f) = signed_one p (At.within (omega arith) (SignedFrom.no_number n)) in
    let z : ◌≡◌ {A = ℕ} 0 1 = cc in
    omega arith

pub year_fault : {s : List ℕ} (r : Result (ℤ × ℕ) Refusal) → SignedAt s 0 r → YearFault s (is_err r)
year_fault (Err g) p = no_year p
year_fault (Ok (y, i)) p = some_year p

-- 10 stands at the first place
pub ten_first : {s : List ℕ} {f : Refusal} → Fault s f → f.number ≡ 10 → f.place ≡ 0
ten_first (Fault.at_year n) e = by n e
  where
    by : {s : List ℕ} {f : Refusal} → NoSigned 0 s f → f.number ≡ 10 → f.place ≡ 0
    by NoSigned.ended e = refl
    by (NoSigned.other x y z) e = refl
    by (NoSigned.bare_plus x) e = refl
    by (NoSigned.bare_dash x) e = refl
    by (NoSigned.above (TooFar.too_far x y z)) e = absurd (omega arith)
    by (NoSigned.above_plus (TooFar.too_far x y z)) e = absurd (omega arith)
    by (NoSigned.below_dash (TooFar.too_far x y z)) e = absurd (omega arith)
ten_first (Fault.at_dash s x (NoDash.other n)) e = absurd (omega arith)
ten_first (Fault.at_dash s x NoDash.ended) e = absurd (omega arith)
ten_first (Fault.at_second s n) e = absurd (not_ten n e)
ten_first (Fault.at_month s m x n) e = absurd (omega arith)
ten_first (Fault.at_second_dash s m v x (NoDash.other n)) e = absurd (omega arith)
ten_first (Fault.at_third s m v n) e = absurd (not_ten n e)
ten_first (Fault.left_over s m v d x) e = absurd (omega arith)

pub mended_ten : (n p : ℕ) → n ≡ 10 → p + 1 ≡ mended_at_value (refusal n p (pos 0))
mended_ten n p e = omega (arith, sym (ap (λ (b : Bool). cond b (suc p) p) (eq-eqb n 10 e)))

pub mended_else : (n p : ℕ) → ¬ (n ≡ 10) → p ≡ mended_at_value (refusal n p (pos 0))
mended_else n p h = sym (ap (λ (b : Bool). cond b (suc p) p) (ne_eqb n 10 h))

pub faulty : {s : List ℕ} {f : Refusal} {b : Bool} {p : ℕ} {e : Expected} → Fault s f → YearFault s b → p ≡ mended_at_value f → Expects (take p s) e → OfFault s (Reason'.Faulty f b p e)
faulty {s} {f} {b} {e = e} w h i x = subst (λ (p : ℕ). OfFault s (Reason'.Faulty f b p e)) (sym i) (OfFault.at_fault w (h f w) (subst (λ (p : ℕ). Expects (take p s) e) i x))

-- ---- What was read
module _ {s : List ℕ} where
  pub is_faulty : {f : Refusal} → ReadDate s (Err f) → Fault s f
  is_faulty (ReadDate.faulty p) = p

  pub is_ordinal : {y : ℤ} {o k : ℕ} → ReadDate s (Ok (Text.Ordinal y o k)) → OrdinalText s y o k
  is_ordinal (ReadDate.ordinal_text p) = p

  pub is_ymd : {y : ℤ} {m d k : ℕ} → ReadDate s (Ok (Text.Ymd y m d k)) → YmdText s y m d k
  is_ymd (ReadDate.ymd_text p) = p

  pub is_month : {y : ℤ} {m d k : ℕ} → ReadDate s (Ok (Text.Ymd y m d k)) → Month m
  is_month (ReadDate.ymd_text p) = T.month_written p
