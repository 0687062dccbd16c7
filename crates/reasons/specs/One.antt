-- Two reasons that hold are equal: so no other one holds, earlier in the table of refusals or later.
use Rattle.std.specs.Prelude.{◌≡◌, refl, Bool, true, false, List, ◌⊎◌, ℕ, ◌<◌, ℤ, pos, negsuc, ◌-ℤ◌, take, ◌<ℤ◌}
use Rattle.std.proofs.Common.{sym, ◌∙◌, ap, ap₂, subst, ⊎_elim, arith}
use Rattle.std.specs.Int.Signed.{clash_ℤ}
use Rattle.whole.specs.Integers.{lt_trans}
use Rattle.whole.specs.Edge.{fits_from, fits_to}
use Rattle.whole.specs.Whether.{Whether}
use Rattle.whole.specs.One.{whether_one}
use Rattle.refusals.specs.declared.Refusal.{Refusal}
use Rattle.refusals.specs.Promise.{refusal}
use Rattle.days.specs.DayByDay.{Label, Timeline, labels_in, Rises, Rising, OfYear, YearLength, Place, Is32Bit}
use Rattle.days.proofs.RisingLabels.{once, days_one, nth_one, nth_within}
use Rattle.days.proofs.RisingTimelines.{rising_rises, skipped_in_nowhere, one_switch}
use Rattle.days.proofs.AcceptedYears.{accepted_rising}
use Rattle.calendar.specs.declared.Calendar.{Calendar}
use Rattle.calendar.specs.declared.Date.{Date}
use Rattle.calendar.specs.Calendars.{timeline, IsRecordIn}
use Rattle.calendar.specs.One.{record_one}
use Rattle.calendar.specs.RowLaws.{One}
use Rattle.numbertext.specs.Numerals.{NoSigned}
use Rattle.datetext.specs.Grammar.{Belongs, Fault}
use Rattle.datetext.proofs.Theorems as T
use Rattle.expected.specs.Promise.{Expects}
use Rattle.expected.specs.One.{expects_one}
use Rattle.monthruns.specs.One.{has_runs_one}
use Rattle.reasons.specs.declared.Reason.{Reason}
use Rattle.reasons.specs.declared.Reason.TheVariants as Reason'
use Rattle.reasons.specs.Promise.{rule_of, Passes, OnDay, Gap, OfYmd, OfOrdinal, mended_at_value, OfFault, Explains}

-- ---- A day
-- a day passes one end, and a 32-bit day none
not_both : {n : ℤ} → pos 2_147_483_647 <ℤ n → n <ℤ negsuc 2_147_483_647 → ⊥
not_both h k = never (lt_trans h k)
  where
    never : pos 2_147_483_647 <ℤ negsuc 2_147_483_647 → ⊥
    never g = g.lt

passes_one : (a b : Bool) (n : ℤ) → Passes a n → Passes b n → a ≡ b
passes_one true true n h k = refl
passes_one true false n h k = absurd (not_both h k)
passes_one false true n h k = absurd (not_both k h)
passes_one false false n h k = refl

pub inside_none : (a : Bool) (n : ℤ) → Is32Bit n → Passes a n → ⊥
inside_none true n f h = clash_ℤ h (fits_to f)
inside_none false n f h = clash_ℤ h (fits_from f)

on_day_one : (t : Timeline) (c : Calendar) (y n : ℤ) → One (OnDay t c y n)
on_day_one t c y n a b (OnDay.accepted f p) (OnDay.accepted g q) = ap (λ (d : Date). Reason'.Accepted d (rule_of d.style d.year)) (record_one p q)
on_day_one t c y n a b (OnDay.accepted f p) (OnDay.outside {above} h) = absurd (inside_none above n f h)
on_day_one t c y n a b (OnDay.outside {above} h) (OnDay.accepted g q) = absurd (inside_none above n g h)
on_day_one t c y n a b (OnDay.outside {above} h) (OnDay.outside {above = below} k) = ap (Reason'.Outside (refusal 7 0 y)) (passes_one above below n h k)

same_day : (t : Timeline) (c : Calendar) (y : ℤ) {n i : ℤ} {a b : Reason} → n ≡ i → OnDay t c y n a → OnDay t c y i b → a ≡ b
same_day t c y {n} {a = a} {b} e p q = on_day_one t c y n a b p (subst (λ (n : ℤ). OnDay t c y n b) (sym e) q)

-- ---- A date
module _ (t : Timeline) (rise : Rising t) (c : Calendar) (y : ℤ) where
  up : Rises (labels_in t)
  up = rising_rises rise

  gap_one : {l : Label} {b b' a a' : Date} → Gap t c l b a → Gap t c l b' a' → (b ≡ b') × (a ≡ a')
  gap_one {l} {b} {b'} {a} {a'} p q =
      let e : q.skipped.switch ≡ p.skipped.switch = one_switch rise q.skipped p.skipped in (
        record_one p.last_before (subst (λ (n : ℤ). IsRecordIn t c (n -ℤ pos 1) b') e q.last_before),
        record_one p.first_after (subst (λ (n : ℤ). IsRecordIn t c n a') e q.first_after),
      )

  of_ymd_one : (m d k : ℕ) → One (OfYmd t c y m d k)
  of_ymd_one m d k a b (OfYmd.missing h p) (OfYmd.missing g q) = ap (Reason'.Missing (refusal 4 k (pos d)) y m) (has_runs_one p q)
  of_ymd_one m d k a b (OfYmd.missing h p) (OfYmd.skipped g) = absurd (h.1 g.skipped)
  of_ymd_one m d k a b (OfYmd.missing h p) (OfYmd.borne e q) = absurd (h.0 (_, e))
  of_ymd_one m d k a b (OfYmd.skipped h) (OfYmd.missing g q) = absurd (g.1 h.skipped)
  of_ymd_one m d k a b (OfYmd.skipped h) (OfYmd.skipped g) = let (e, f) = gap_one h g in ap₂ (Reason'.Skipped (refusal 5 k (pos d))) e f
  of_ymd_one m d k a b (OfYmd.skipped h) (OfYmd.borne e q) = absurd (skipped_in_nowhere rise h.skipped (_, e))
  of_ymd_one m d k a b (OfYmd.borne e p) (OfYmd.missing g q) = absurd (g.0 (_, e))
  of_ymd_one m d k a b (OfYmd.borne e p) (OfYmd.skipped g) = absurd (skipped_in_nowhere rise g.skipped (_, e))
  of_ymd_one m d k a b (OfYmd.borne e p) (OfYmd.borne f q) = same_day t c y (once up (e ∙ sym f)) p q

  pub on_or_off : {o l : ℕ} {n : ℤ} → YearLength (labels_in t) y l → (o ≡ 0) ⊎ (l < o) → OfYear y (labels_in t n) → Place (λ d. OfYear y (labels_in t d)) n o → ⊥
  on_or_off s h p q = let (a, b) = nth_within s p q in ⊎_elim (λ e. omega arith) (λ g. omega arith) h

  of_ordinal_one : (o k : ℕ) → One (OfOrdinal t c y o k)
  of_ordinal_one o k a b (OfOrdinal.off_year p h) (OfOrdinal.off_year q g) = ap (Reason'.OffYear (refusal 6 k (pos o)) y) (days_one p q)
  of_ordinal_one o k a b (OfOrdinal.off_year p h) (OfOrdinal.in_year e q x) = absurd (on_or_off p h e q)
  of_ordinal_one o k a b (OfOrdinal.in_year e p x) (OfOrdinal.off_year q g) = absurd (on_or_off q g e p)
  of_ordinal_one o k a b (OfOrdinal.in_year e p x) (OfOrdinal.in_year f q z) = same_day t c y (nth_one e p f q) x z

-- ---- A text
of_fault_one : (s : List ℕ) → One (OfFault s)
of_fault_one s a b (OfFault.at_fault {f} {of_year} {e} p h x) (OfFault.at_fault {f = g} {of_year = ofYear'} {e = e'} q k z) =
    let i : g ≡ f = T.one_fault q p in
    let j : of_year ≡ ofYear' = whether_one (NoSigned 0 s f) of_year ofYear' h (subst (λ (n : Refusal). Whether (NoSigned 0 s n) ofYear') i k) in
    let l : e ≡ e' = expects_one x (subst (λ (n : Refusal). Expects (take (mended_at_value n) s) e') i z) in
    ap (λ (b : Bool). Reason'.Faulty f b (mended_at_value f) e) j ∙ ap (Reason'.Faulty f ofYear' (mended_at_value f)) l ∙ ap (λ (n : Refusal). Reason'.Faulty n ofYear' (mended_at_value n) e') (sym i)

has_fault : {s : List ℕ} {r : Reason} → OfFault s r → (f : Refusal) × Fault s f
has_fault (OfFault.at_fault {f} p h x) = (f, p)

-- ---- The reason
pub explains_one : (c : Calendar) (s : List ℕ) → One (Explains c s)
explains_one c s a b (Explains.made_up n) (Explains.made_up m) = refl
explains_one c s a b (Explains.made_up n) (Explains.faulty x q) = absurd (n x)
explains_one c s a b (Explains.made_up n) (Explains.by_ymd x u q) = absurd (n x)
explains_one c s a b (Explains.made_up n) (Explains.by_ordinal x u q) = absurd (n x)
explains_one c s a b (Explains.faulty x p) (Explains.made_up m) = absurd (m x)
explains_one c s a b (Explains.faulty x p) (Explains.faulty z q) = of_fault_one s a b p q
explains_one c s a b (Explains.faulty x p) (Explains.by_ymd z u q) = absurd (T.never_both (Belongs.by_day u) (has_fault p).1)
explains_one c s a b (Explains.faulty x p) (Explains.by_ordinal z u q) = absurd (T.never_both (Belongs.by_ordinal u) (has_fault p).1)
explains_one c s a b (Explains.by_ymd x u p) (Explains.made_up m) = absurd (m x)
explains_one c s a b (Explains.by_ymd x u p) (Explains.faulty z q) = absurd (T.never_both (Belongs.by_day u) (has_fault q).1)
explains_one c s a b (Explains.by_ymd {y} {m} {d} {k} x u p) (Explains.by_ymd {y = z} {m = n} {d = i} {k = j} w v q) =
    let (e, f, g, h) = T.one_ymd v u in
    of_ymd_one (timeline c) (accepted_rising x) c y m d k a b p
    (subst (λ (z : ℤ). OfYmd (timeline c) c z m d k b) e (subst (λ (n : ℕ). OfYmd (timeline c) c z n d k b) f (subst (λ (i : ℕ). OfYmd (timeline c) c z n i k b) g (subst (λ (j : ℕ). OfYmd (timeline c) c z n i j b) h q))))
explains_one c s a b (Explains.by_ymd x u p) (Explains.by_ordinal z v q) = absurd (T.one_way v u)
explains_one c s a b (Explains.by_ordinal x u p) (Explains.made_up m) = absurd (m x)
explains_one c s a b (Explains.by_ordinal x u p) (Explains.faulty z q) = absurd (T.never_both (Belongs.by_ordinal u) (has_fault q).1)
explains_one c s a b (Explains.by_ordinal x u p) (Explains.by_ymd z v q) = absurd (T.one_way u v)
explains_one c s a b (Explains.by_ordinal {y} {o} {k} x u p) (Explains.by_ordinal {y = z} {o = i} {k = j} w v q) =
    let (e, f, g) = T.one_ordinal v u in
    of_ordinal_one (timeline c) (accepted_rising x) c y o k a b p
    (subst (λ (z : ℤ). OfOrdinal (timeline c) c z o k b) e (subst (λ (i : ℕ). OfOrdinal (timeline c) c z i k b) f (subst (λ (j : ℕ). OfOrdinal (timeline c) c z i j b) g q)))
