-- THE THEOREMS ON THE REASONS. The reason that holds is the reason for the answer of `parse_date`: it names the record, or the refusal, that `parse_date`
-- gives for the same calendar and text (`reason_of_answer`). A fault stands in its text, or at the end of it (`fault_inside`), and what could have stood
-- there is told of such a place too, or of the next one (`mended_inside`). That exactly one reason holds is in `One`.
use Rattle.std.specs.Prelude.{◌≡◌, refl, Bool, true, false, cond, List, ◌∷◌, ◌++◌, ℕ, suc, ◌+◌, ◌≤◌, eqb, length, ℤ, Result, Ok, Err}
use Rattle.std.proofs.Common.{subst, arith, length-append}
use Rattle.days.specs.DayByDay.{Timeline, Rising, Month}
use Rattle.days.proofs.RisingTimelines.{skipped_in_nowhere}
use Rattle.days.proofs.AcceptedYears.{accepted_rising}
use Rattle.calendar.specs.declared.Calendar.{Calendar}
use Rattle.calendar.specs.Calendars.{timeline}
use Rattle.calendar.specs.Rows.{refuses, passes}
use Rattle.calendar.specs.Promise.{made_up, GivenIn, record_of, YmdIn, on_label, OrdinalIn, on_ordinal}
use Rattle.refusals.specs.declared.Refusal.{Refusal}
use Rattle.digits.specs.Numerals.{dash}
use Rattle.numbertext.specs.Numerals.{TooFar, NoNumber, NoSigned, NoDash}
use Rattle.datetext.specs.Grammar.{Fault}
use Rattle.datetext.proofs.Theorems.{month_written}
use Rattle.dateparse.specs.Promise.{placed_at, ByTextIn, by_fault, by_ymd, by_ordinal, ParseDate}
use Rattle.dateparse.specs.One.{parse_date_one}
use Rattle.reasons.specs.declared.Reason.{Reason}
use Rattle.reasons.specs.declared.Reason.TheVariants as Reason'
use Rattle.reasons.specs.Promise.{OnDay, OfYmd, OfOrdinal, mended_at_value, OfFault, Explains}
use Rattle.reasons.specs.One.{inside_none, on_or_off}
use Rattle.calendar.specs.declared.Date.{Date}

-- the answer that a reason is for
abbrev pub answer_of : Reason → Result Date Refusal
answer_of (Reason'.Accepted d leap) = Ok d
answer_of Reason'.MadeUp = Err made_up
answer_of (Reason'.Faulty f of_year p e) = Err f
answer_of (Reason'.Missing f y m r) = Err f
answer_of (Reason'.Skipped f before after) = Err f
answer_of (Reason'.OffYear f y length) = Err f
answer_of (Reason'.Outside f above) = Err f

-- what a call without a text answers, which has no place yet
record Answers (k : ℕ) (Rows : Result Date Refusal → Type 0) (r : Reason) : Type 0 where
  answer : Result Date Refusal
  rows : Rows answer
  placed : placed_at k answer ≡ answer_of r

on_day : (t : Timeline) {c : Calendar} {y n : ℤ} {r : Reason} (k : ℕ) → OnDay t c y n r → Answers k (GivenIn t c y n) r
on_day t k (OnDay.accepted f p) = record { answer = _; rows = passes f (record_of p); placed = refl }
on_day t {n = n} k (OnDay.outside {above} h) = record { answer = _; rows = refuses (λ f. inside_none above n f h); placed = refl }

of_ymd : (t : Timeline) → Rising t → {c : Calendar} {y : ℤ} {m d k : ℕ} {r : Reason} → Month m → OfYmd t c y m d k r → Answers k (YmdIn t c y m d) r
of_ymd t rise v (OfYmd.missing h p) = record { answer = _; rows = passes v (refuses h); placed = refl }
of_ymd t rise v (OfYmd.skipped g) = record { answer = _; rows = passes v (passes (λ h. h.1 g.skipped) (refuses g.skipped)); placed = refl }
of_ymd t rise {k = k} v (OfYmd.borne e p) =
    let a = on_day t k p in
    record { answer = a.answer; rows = passes v (passes (λ h. h.0 (_, e)) (passes (λ s. skipped_in_nowhere rise s (_, e)) (on_label e a.rows))); placed = a.placed }

of_ordinal : (t : Timeline) → Rising t → {c : Calendar} {y : ℤ} {o k : ℕ} {r : Reason} → OfOrdinal t c y o k r → Answers k (OrdinalIn t c y o) r
of_ordinal t rise (OfOrdinal.off_year p h) = record { answer = _; rows = refuses (_, p, h); placed = refl }
of_ordinal t rise {c} {y} {k = k} (OfOrdinal.in_year e p x) =
    let a = on_day t k x in
    record { answer = a.answer; rows = passes (λ h. on_or_off t rise c y h.1 h.2 e p) (on_ordinal e p a.rows); placed = a.placed }

fault_answer : {t : Timeline} {c : Calendar} {s : List ℕ} {r : Reason} → OfFault s r → ByTextIn t c s (answer_of r)
fault_answer (OfFault.at_fault p h x) = by_fault p

pub answered : {c : Calendar} {s : List ℕ} {r : Reason} → Explains c s r → ParseDate c s (answer_of r)
answered (Explains.made_up n) = refuses n
answered (Explains.faulty x p) = passes x (fault_answer p)
answered {c} {s} {r} (Explains.by_ymd x u p) = let a = of_ymd (timeline c) (accepted_rising x) (month_written u) p in passes x (subst (ByTextIn (timeline c) c s) a.placed (by_ymd u a.rows))
answered {c} {s} {r} (Explains.by_ordinal x u p) = let a = of_ordinal (timeline c) (accepted_rising x) p in passes x (subst (ByTextIn (timeline c) c s) a.placed (by_ordinal u a.rows))

-- the reason is that of the answer
pub reason_of_answer : {c : Calendar} {s : List ℕ} {r : Reason} {a : Result Date Refusal} → Explains c s r → ParseDate c s a → a ≡ answer_of r
reason_of_answer {c} {s} {r} {a} e p = parse_date_one c s a (answer_of r) p (answered e)

-- ---- Where a fault stands

too_far_inside : {limit number at : ℕ} {u : List ℕ} {f : Refusal} → TooFar limit number at u f → f.place ≤ at + length u
too_far_inside (TooFar.too_far {p} {u} ds st l) = omega (arith, l.stands, length-append p u)

no_number_inside : {at : ℕ} {u : List ℕ} {f : Refusal} → NoNumber at u f → f.place ≤ at + length u
no_number_inside NoNumber.ended = omega arith
no_number_inside (NoNumber.other n) = omega arith
no_number_inside (NoNumber.above w) = too_far_inside w

no_signed_inside : {at : ℕ} {u : List ℕ} {f : Refusal} → NoSigned at u f → f.place ≤ at + length u
no_signed_inside NoSigned.ended = omega arith
no_signed_inside (NoSigned.other n i j) = omega arith
no_signed_inside (NoSigned.bare_plus n) = omega arith
no_signed_inside (NoSigned.bare_dash n) = omega arith
no_signed_inside (NoSigned.above w) = too_far_inside w
no_signed_inside (NoSigned.above_plus w) = omega (arith, too_far_inside w)
no_signed_inside (NoSigned.below_dash w) = omega (arith, too_far_inside w)

no_dash_inside : {at : ℕ} {u : List ℕ} {f : Refusal} → NoDash at u f → f.place ≤ at + length u
no_dash_inside (NoDash.other n) = omega arith
no_dash_inside NoDash.ended = omega arith

pub fault_inside : {s : List ℕ} {f : Refusal} → Fault s f → f.place ≤ length s
fault_inside (Fault.at_year n) = omega (arith, no_signed_inside n)
fault_inside (Fault.at_dash {p} {u} s x n) = omega (arith, no_dash_inside n, length-append p u)
fault_inside (Fault.at_second {p} {u} s n) = omega (arith, no_number_inside n, length-append p (dash ∷ u))
fault_inside (Fault.at_month {p} {q} {u} {b = b} s m x n) = omega (arith, length-append p (dash ∷ (q ++ (b ∷ u))))
fault_inside (Fault.at_second_dash {p} {q} {u} {b = b} s m v x n) = omega (arith, no_dash_inside n, length-append p (dash ∷ (q ++ (b ∷ u))), length-append q (b ∷ u))
fault_inside (Fault.at_third {p} {q} {u} s m v n) = omega (arith, no_number_inside n, length-append p (dash ∷ (q ++ (dash ∷ u))), length-append q (dash ∷ u))
fault_inside (Fault.left_over {p} {q} {t} {u} {b = b} s m v d x) = omega (arith, length-append p (dash ∷ (q ++ (dash ∷ (t ++ (b ∷ u))))), length-append q (dash ∷ (t ++ (b ∷ u))), length-append t (b ∷ u))

pub mended_inside : {s : List ℕ} {f : Refusal} → Fault s f → mended_at_value f ≤ suc (length s)
mended_inside {s} {f} w = by (eqb f.number 10)
  where
    by : (b : Bool) → cond b (suc f.place) f.place ≤ suc (length s)
    by true = omega (arith, fault_inside w)
    by false = omega (arith, fault_inside w)
