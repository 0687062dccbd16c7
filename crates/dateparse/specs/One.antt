-- A promise allows one result.
-- Assumes nothing.
use Rattle.std.specs.Prelude.{◌≡◌, List, ℕ, ℤ, Result, Err}
use Rattle.std.proofs.Common.{sym, ◌∙◌, ap, subst}
use Rattle.days.specs.DayByDay.{Timeline, labels_in, Rises}
use Rattle.days.proofs.AcceptedCalendars.{accepted_rises}
use Rattle.calendar.specs.declared.Calendar.{Calendar}
use Rattle.calendar.specs.declared.Date.{Date}
use Rattle.calendar.specs.Calendars.{timeline}
use Rattle.calendar.specs.RowLaws.{One, unless_one}
use Rattle.calendar.specs.Promise.{YmdIn, OrdinalIn}
use Rattle.calendar.specs.One.{ymd_in_one, ordinal_in_one}
use Rattle.writer.specs.One.{write_ymd_one}
use Rattle.datetext.specs.Grammar.{Belongs}
use Rattle.datetext.proofs.Theorems as T
use Rattle.dateparse.specs.Promise.{placed_at, ByTextIn, by_fault, by_ordinal, by_ymd, ParseDate, WriteDate}
use Rattle.refusals.specs.declared.Refusal.{Refusal}

pub by_text_one : {t : Timeline} → Rises (labels_in t) → (c : Calendar) (s : List ℕ) → One (ByTextIn t c s)
by_text_one {t} up c s a b (by_fault p) (by_fault q) = ap Err (T.one_fault p q)
by_text_one {t} up c s a b (by_fault p) (by_ordinal q g) = absurd (T.never_both (Belongs.by_ordinal q) p)
by_text_one {t} up c s a b (by_fault p) (by_ymd q g) = absurd (T.never_both (Belongs.by_day q) p)
by_text_one {t} up c s a b (by_ordinal p f) (by_fault q) = absurd (T.never_both (Belongs.by_ordinal p) q)
by_text_one {t} up c s a b (by_ordinal {y} {o} {k} {a = x} p f) (by_ordinal {y = z} {o = i} {k = j} {a = w} q g) =
    let (e, h, l) = T.one_ordinal p q in
    ap (placed_at k) (ordinal_in_one t c y o x w f (subst (λ (z : ℤ). OrdinalIn t c z o w) (sym e) (subst (λ (i : ℕ). OrdinalIn t c z i w) (sym h) g))) ∙ ap (λ (n : ℕ). placed_at n w) l
by_text_one {t} up c s a b (by_ordinal p f) (by_ymd q g) = absurd (T.one_way p q)
by_text_one {t} up c s a b (by_ymd p f) (by_fault q) = absurd (T.never_both (Belongs.by_day p) q)
by_text_one {t} up c s a b (by_ymd p f) (by_ordinal q g) = absurd (T.one_way q p)
by_text_one {t} up c s a b (by_ymd {y} {m} {d} {k} {a = x} p f) (by_ymd {y = z} {m = n} {d = i} {k = j} {a = w} q g) =
    let (e, h, l, g') = T.one_ymd p q in
    ap (placed_at k) (ymd_in_one t c up y m d x w f (subst (λ (z : ℤ). YmdIn t c z m d w) (sym e) (subst (λ (n : ℕ). YmdIn t c z n d w) (sym h) (subst (λ (i : ℕ). YmdIn t c z n i w) (sym l) g))))
    ∙ ap (λ (n : ℕ). placed_at n w) g'

pub parse_date_one : (c : Calendar) (s : List ℕ) → One (ParseDate c s)
parse_date_one c s = unless_one (λ a. by_text_one {t = timeline c} (accepted_rises a) c s)

pub write_date_one : (d : Date) (b : List ℕ) → One (WriteDate d b)
write_date_one d b = unless_one (λ g p q x y. let (e, f) = write_ymd_one x y in pair_is p q e f)
  where
    pair_is : (p q : List ℕ × (Result ℕ Refusal)) → p.0 ≡ q.0 → p.1 ≡ q.1 → p ≡ q
    pair_is p q e f = ap (λ (l : List ℕ). (l, p.1)) e ∙ ap (λ (w : Result ℕ Refusal). (q.0, w)) f
