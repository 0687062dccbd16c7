-- Demand 3: `EveryText` says it, and it holds of any timeline that rises (`every_text`) and of every accepted calendar (`every_calendar`).
-- Assumes nothing.
use Rattle.std.specs.Prelude.{◌≡◌, refl, List, ℕ, ◌≤◌, ℤ, pos, negsuc, ◌≤ℤ◌, length, take, Result, Ok, Err}
use Rattle.std.proofs.Common.{sym, ◌∙◌, ap, subst, ⊎_elim, arith}
use Rattle.days.specs.DayByDay.{Label, label, Timeline, labels_in, OfYear, Place, Is32Bit, Rising, Month}
use Rattle.days.proofs.RisingLabels.{once, nth_one}
use Rattle.days.proofs.RisingTimelines.{rising_rises, timeline_proper, timeline_most}
use Rattle.days.proofs.AcceptedYears.{year_from, year_to, year_short, accepted_rising}
use Rattle.calendar.specs.declared.Calendar.{Calendar}
use Rattle.calendar.specs.declared.Date.{Date}
use Rattle.calendar.specs.Calendars.{timeline, Accepted, IsRecordIn, IsRecord, Genuine}
use Rattle.calendar.specs.Rows.{passes}
use Rattle.calendar.specs.RowLaws.{passed}
use Rattle.calendar.specs.Promise.{YmdIn, OrdinalIn}
use Rattle.calendar.specs.One.{record_one}
use Rattle.calendar.specs.Theorems.{IsRecordOfIn, ymd_in_accepts, ymd_in_only, ordinal_in_accepts, ordinal_in_only, has_record}
use Rattle.calendar.specs.Answered.{ymd_answered, ordinal_answered}
use Rattle.writer.specs.Promise.{YmdDecimal}
use Rattle.writer.specs.Theorems as W
use Rattle.datetext.specs.Grammar.{OrdinalText, YmdText, Belongs}
use Rattle.datetext.proofs.Theorems as T
use Rattle.dateparse.specs.EveryText.{Says, says_ymd, says_ordinal, EveryText}
use Rattle.dateparse.specs.ReadBack.{has_text, written_writes}
use Rattle.dateparse.specs.One.{by_text_one}
use Rattle.dateparse.specs.Promise.{placed_at, ByTextIn, ByText, by_fault, by_ordinal, by_ymd, ParseDate, WriteDate}
use Rattle.refusals.specs.declared.Refusal.{Refusal}

-- ---- A text is accepted exactly where a day bears its date
same_label : {s : List ℕ} {y z : ℤ} {m n d e k j : ℕ} → YmdText s y m d k → YmdText s z n e j → label y m d ≡ label z n e
same_label {y = y} {z} {m} {n} {d} {e} p q = let (a, b, c, f) = T.one_ymd p q in let w : label y m d ≡ label z n e = cc in w

-- the record of an answer is the same wherever it is placed
placed_is : (t : Timeline) (c : Calendar) {n : ℤ} (k : ℕ) {w : Result Date Refusal} → IsRecordOfIn t c n w → IsRecordOfIn t c n (placed_at k w)
placed_is t c k (d, e, i) = (d, ap (placed_at k) e, i)

placed_date : (k : ℕ) {b : Date} (w : Result Date Refusal) → placed_at k w ≡ Ok b → w ≡ Ok b
placed_date k (Ok d) e = e
placed_date k (Err f) e = let z : ◌≡◌ {A = ℕ} 0 1 = cc in absurd (never z)
  where
    never : ◌≡◌ {A = ℕ} 0 1 → ⊥
    never z = omega arith

module _ (t : Timeline) (r : Rising t) (c : Calendar) {s : List ℕ} where
  -- a text says one day at most
  pub one_day : {n k : ℤ} → Says t s n → Says t s k → n ≡ k
  one_day (says_ymd p e) (says_ymd q f) = once (rising_rises r) (e ∙ same_label p q ∙ sym f)
  one_day (says_ymd p e) (says_ordinal q u h) = absurd (T.one_way q p)
  one_day (says_ordinal p u h) (says_ymd q f) = absurd (T.one_way p q)
  one_day {n} {k} (says_ordinal {y} {o} p u h) (says_ordinal {y = z} {o = i} q v g) =
      let (e, f, l) = T.one_ordinal p q in
      nth_one u h (subst (λ (z : ℤ). OfYear z (labels_in t k)) (sym e) v) (subst (λ (z : ℤ). Place (λ i. OfYear z (labels_in t i)) k o) (sym e) (subst (Place (λ i. OfYear z (labels_in t i)) k) (sym f) g))

  -- where a 32-bit day bears the date that a text writes, the text is accepted, with the record of that day
  pub accepts : {n : ℤ} {a : Result Date Refusal} → Is32Bit n → Says t s n → ByTextIn t c s a → IsRecordOfIn t c n a
  accepts {n} f (says_ymd p e) (by_fault q) = absurd (T.never_both (Belongs.by_day p) q)
  accepts {n} f (says_ymd p e) (by_ordinal q g) = absurd (T.one_way q p)
  accepts f (says_ymd p e) (by_ymd {k = k} q g) = placed_is t c k (ymd_in_accepts t c r f (e ∙ same_label p q) g)
  accepts {n} f (says_ordinal p u h) (by_fault q) = absurd (T.never_both (Belongs.by_ordinal p) q)
  accepts {n} f (says_ordinal {y} {o} p u h) (by_ordinal {y = z} {o = i} {k = j} {a = w} q g) =
      let (e, l, k) = T.one_ordinal p q in
      placed_is t c j (ordinal_in_accepts t c r f u h (subst (λ (z : ℤ). OrdinalIn t c z o w) (sym e) (subst (λ (i : ℕ). OrdinalIn t c z i w) (sym l) g)))
  accepts {n} f (says_ordinal p u h) (by_ymd q g) = absurd (T.one_way p q)

  -- and only there
  pub accepted_only : {b : Date} {a : Result Date Refusal} → a ≡ Ok b → ByTextIn t c s a → (n : ℤ) × Is32Bit n × Says t s n × IsRecordIn t c n b
  accepted_only e (by_fault q) = let z : ◌≡◌ {A = ℕ} 0 1 = cc in absurd (never z)
    where
      never : ◌≡◌ {A = ℕ} 0 1 → ⊥
      never z = omega arith
  accepted_only e (by_ymd {y} {m} {d} {k} {a = w} q g) =
      let (n, f, l, i) = ymd_in_only t c r (subst (YmdIn t c y m d) (placed_date k w e) g) in (n, f, says_ymd q l, i)
  accepted_only e (by_ordinal {y} {o} {k} {a = w} q g) =
      let (n, f, u, h, i) = ordinal_in_only t c r (subst (OrdinalIn t c y o) (placed_date k w e) g) in (n, f, says_ordinal q u h, i)

-- ---- The text of each 32-bit day reads back to that day
module _ (t : Timeline) (r : Rising t) (c : Calendar) {n : ℤ} {d : Date} (f : Is32Bit n) (i : IsRecordIn t c n d) where
  of_day : (P : Label → Type 0) → P (labels_in t n) → P (label d.year d.month d.day)
  of_day P = subst P i.label_is

  pub month_is : Month d.month
  month_is = let p = of_day (λ (l : Label). (1 ≤ l.month) × (l.month ≤ 12) × (1 ≤ l.day)) (timeline_proper t n) in (p.0, p.1)

  pub day_most : d.day ≤ 31
  day_most = of_day (λ (l : Label). l.day ≤ 31) (timeline_most t n)

  reads_back : {u : List ℕ} {a : Result Date Refusal} → YmdDecimal u d.year d.month d.day → ByTextIn t c u a → a ≡ Ok d
  reads_back w p =
      let (k, x) = written_writes w (of_day (λ (l : Label). Is32Bit l.year) (r.year_fits n f)) month_is (omega (arith, day_most)) in
      let (b, e, j) = accepts t r c f (says_ymd x i.label_is) p in e ∙ ap Ok (record_one j i)

-- ---- Every text has an answer
module _ (t : Timeline) (r : Rising t) (c : Calendar) where
  ordinal_text_answered : {s : List ℕ} {y : ℤ} {o k : ℕ} → OrdinalText s y o k → (a : Result Date Refusal) × ByTextIn t c s a
  ordinal_text_answered {y = y} (OrdinalText.ordinal {n = o} p q) = let (a, g) = ordinal_answered t r c y o in (_, by_ordinal (OrdinalText.ordinal p q) g)

  ymd_text_answered : {s : List ℕ} {y : ℤ} {m d k : ℕ} → YmdText s y m d k → (a : Result Date Refusal) × ByTextIn t c s a
  ymd_text_answered {y = y} (YmdText.ymd {m} {d} p q mo i) = let (a, g) = ymd_answered t r c y m d in (_, by_ymd (YmdText.ymd p q mo i) g)

  text_answered : (s : List ℕ) → (a : Result Date Refusal) × ByTextIn t c s a
  text_answered s = ⊎_elim by (λ (f, q). (Err f, by_fault q)) (T.belongs_or_faulty s)
    where
      by : Belongs s → (a : Result Date Refusal) × ByTextIn t c s a
      by (Belongs.by_ordinal p) = ordinal_text_answered p
      by (Belongs.by_day p) = ymd_text_answered p

-- ---- Demand 3: any timeline that rises
pub every_text : (t : Timeline) → Rising t → (c : Calendar) → EveryText t c (ByTextIn t c)
every_text t r c = record {
  answered = text_answered t r c;
  accepted = accepts t r c;
  only_there = accepted_only t r c refl;
  one_day = one_day t r c;
  one_date = λ {s} {a} {b}. by_text_one {t = t} (rising_rises r) c s a b;
  one_way = T.one_way;
  one_ordinal = T.one_ordinal;
  one_ymd = T.one_ymd;
  recorded = λ {n} f. has_record t r c n;
  written = λ {n} {d} f i. has_text d.year d.month d.day;
  reads_back = λ f i. reads_back t r c f i;
}

-- ---- and so every accepted calendar, with 16 before all else
pub every_calendar : (c : Calendar) → Accepted c → EveryText (timeline c) c (ParseDate c)
every_calendar c acc =
    let e : EveryText (timeline c) c (ByText c) = every_text (timeline c) (accepted_rising acc) c in
    record {
      answered = λ s. let (a, p) = e.answered s in (a, passes acc p);
      accepted = λ f p q. e.accepted f p (passed acc q);
      only_there = λ q. e.only_there (passed acc q);
      one_day = e.one_day;
      one_date = λ p q. e.one_date (passed acc p) (passed acc q);
      one_way = e.one_way;
      one_ordinal = e.one_ordinal;
      one_ymd = e.one_ymd;
      recorded = e.recorded;
      written = e.written;
      reads_back = λ f i w q. e.reads_back f i w (passed acc q);
    }

-- whose texts have at most 14 bytes
pub fourteen : (c : Calendar) → Accepted c → {n : ℤ} {d : Date} → Is32Bit n → IsRecord c n d → {u : List ℕ} → YmdDecimal u d.year d.month d.day → length u ≤ 14
fourteen c acc {n} {d} f i w = W.fourteen w (year_short from to) (month_is (timeline c) (accepted_rising acc) c f i).1 (day_most (timeline c) (accepted_rising acc) c f i)
  where
    from : negsuc 5_884_322 ≤ℤ d.year
    from = of_day (timeline c) (accepted_rising acc) c f i (λ (l : Label). negsuc 5_884_322 ≤ℤ l.year) (year_from acc f)

    to : d.year ≤ℤ pos 5_874_898
    to = of_day (timeline c) (accepted_rising acc) c f i (λ (l : Label). l.year ≤ℤ pos 5_874_898) (year_to acc f)

-- so for what write_date has put at the front of a buffer
pub written_reads_back : (d : Date) → Genuine d → Is32Bit d.jdn → {b b' : List ℕ} {i : ℕ} {a : Result Date Refusal} → WriteDate d b (b', Ok i)
    → ParseDate d.calendar (take i b') a → a ≡ Ok d
written_reads_back d g f (passes x w) q = (every_calendar d.calendar g.accepted).reads_back f g.is_record (W.written_front w) q
