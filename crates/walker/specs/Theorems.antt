-- What a walker gives over any number of calls, and which walkers are genuine: those that accepted calls give.
-- Assumes nothing.
use Rattle.std.specs.Prelude.{◌≡◌, refl, Bool, true, false, ℕ, zero, suc, ℤ, pos, negsuc, ◌+ℤ◌, ◌-ℤ◌, ◌<ℤ◌, Result, Ok}
use Rattle.std.proofs.Common.{sym, ◌∙◌, ap, subst, ⊎_elim}
use Rattle.std.proofs.Math.IntN.{suc_ℤ, pred_ℤ, +ℤ-suc_ℤ, +ℤ-pred_ℤ, +ℤ_one, -ℤ_one, suc-pred, suc_ℤ-+ℤ, pred_ℤ-+ℤ, +ℤ-neg_ℤ_cancel, -ℤ-+ℤ_cancel}
use Rattle.std.specs.Int.Signed.{clash_ℤ}
use Rattle.whole.specs.Integers.{lt_or_ge, lt_le, lt_trans, le_trans, lt_suc}
use Rattle.whole.specs.Edge.{fits_from, fits_to, fits_between}
use Rattle.days.specs.DayByDay.{Is32Bit}
use Rattle.calendar.specs.declared.Calendar.{Calendar}
use Rattle.calendar.specs.declared.Date.{Date}
use Rattle.calendar.specs.Calendars.{IsRecord, Genuine}
use Rattle.calendar.specs.Rows.{refuses, passes, Unless}
use Rattle.calendar.specs.Promise.{refused, RecordOf, record_of}
use Rattle.ways.specs.declared.Kind.{Kind}
use Rattle.ways.specs.declared.Kind.TheVariants.{Later, Earlier, AndLater, AndEarlier}
use Rattle.walker.specs.declared.Walker.{Walker}
use Rattle.walker.specs.declared.Moved.{Moved}
use Rattle.ways.specs.Promise.{toward, gives, holds, FlagAt}
use Rattle.ways.specs.Laws.{not_both}
use Rattle.walker.specs.Promise.{GenuineWalker, walker, made, Makes, moves, Steps}
use Rattle.calendar.specs.Theorems.{record_genuine}
use Rattle.refusals.specs.declared.Refusal.{Refusal}

-- ---- Any number of calls

-- the walker after so many calls
pub data Called (w : Walker) : ℕ → Walker → Type 0 where
  uncalled : Called w zero w
  called : {i : ℕ} {v : Walker} → Called w i v → {m : Moved} → Steps v m → Called w (suc i) m.walker

-- the answer of the i-th call, from 1
pub data Answer (w : Walker) : ℕ → Result Date Refusal → Type 0 where
  answer : {i : ℕ} {v : Walker} → Called w i v → {m : Moved} → Steps v m → Answer w (suc i) m.answer

-- the day that the i-th call gives of a walker that is made from day n
abbrev pub day_of_call : Kind → ℤ → ℕ → ℤ
day_of_call Later n i = n +ℤ pos i
day_of_call Earlier n i = n -ℤ pos i
day_of_call AndLater n i = n +ℤ pos i -ℤ pos 1
day_of_call AndEarlier n i = n -ℤ pos i +ℤ pos 1

-- its record; past the ends of 32 bits, refused 15
abbrev pub GivesDay : Kind → Date → ℕ → Result Date Refusal → Type 0
GivesDay k d i = Unless (Is32Bit (day_of_call k d.jdn i)) (refused 15 (pos 0)) (RecordOf d.calendar (day_of_call k d.jdn i))

-- ---- Past an end of 32 bits
abbrev Past : Kind → ℤ → Type 0
Past Later n = pos 2_147_483_647 <ℤ n
Past Earlier n = n <ℤ negsuc 2_147_483_647
Past AndLater n = pos 2_147_483_647 <ℤ n
Past AndEarlier n = n <ℤ negsuc 2_147_483_647

lt_pred : (n : ℤ) → pred_ℤ n <ℤ n
lt_pred n = subst (λ (z : ℤ). pred_ℤ n <ℤ z) (suc-pred n) (lt_suc (pred_ℤ n))

above_off : {n : ℤ} → pos 2_147_483_647 <ℤ n → ¬ Is32Bit n
above_off p f = clash_ℤ p (fits_to f)

below_off : {n : ℤ} → n <ℤ negsuc 2_147_483_647 → ¬ Is32Bit n
below_off p f = clash_ℤ p (fits_from f)

past_off : (k : Kind) (n : ℤ) → Past k n → ¬ Is32Bit n
past_off Later n = above_off
past_off Earlier n = below_off
past_off AndLater n = above_off
past_off AndEarlier n = below_off

past_on : (k : Kind) (n : ℤ) → Past k n → Past k (toward k n)
past_on Later n p = lt_trans p (lt_suc n)
past_on Earlier n p = lt_trans (lt_pred n) p
past_on AndLater n p = lt_trans p (lt_suc n)
past_on AndEarlier n p = lt_trans (lt_pred n) p

suc_past : (n : ℤ) → Is32Bit n → ¬ Is32Bit (suc_ℤ n) → pos 2_147_483_647 <ℤ suc_ℤ n
suc_past n f x = ⊎_elim (λ h. h) (λ h. absurd (x (fits_between (le_trans (fits_from f) (lt_le (lt_suc n))) h))) (lt_or_ge (pos 2_147_483_647) (suc_ℤ n))

pred_past : (n : ℤ) → Is32Bit n → ¬ Is32Bit (pred_ℤ n) → pred_ℤ n <ℤ negsuc 2_147_483_647
pred_past n f x = ⊎_elim (λ h. h) (λ h. absurd (x (fits_between h (le_trans (lt_le (lt_pred n)) (fits_to f))))) (lt_or_ge (pred_ℤ n) (negsuc 2_147_483_647))

past_first : (k : Kind) (n : ℤ) → Is32Bit n → ¬ Is32Bit (toward k n) → Past k (toward k n)
past_first Later = suc_past
past_first Earlier = pred_past
past_first AndLater = suc_past
past_first AndEarlier = pred_past

-- ---- The days of the calls
call_first : (k : Kind) (n : ℤ) → day_of_call k n 1 ≡ gives k n
call_first Later n = +ℤ_one n
call_first Earlier n = -ℤ_one n
call_first AndLater n = +ℤ-neg_ℤ_cancel n (pos 1)
call_first AndEarlier n = -ℤ-+ℤ_cancel n (pos 1)

call_next : (k : Kind) (n : ℤ) (i : ℕ) → day_of_call k n (suc (suc i)) ≡ toward k (day_of_call k n (suc i))
call_next Later n i = +ℤ-suc_ℤ n (pos (suc i))
call_next Earlier n i = +ℤ-pred_ℤ n (negsuc i)
call_next AndLater n i = ap (λ (z : ℤ). z -ℤ pos 1) (+ℤ-suc_ℤ n (pos (suc i))) ∙ suc_ℤ-+ℤ (n +ℤ pos (suc i)) (negsuc 0)
call_next AndEarlier n i = ap (λ (z : ℤ). z +ℤ pos 1) (+ℤ-pred_ℤ n (negsuc i)) ∙ pred_ℤ-+ℤ (n -ℤ pos (suc i)) (pos 1)

gives_next : (k : Kind) (n : ℤ) → gives k (holds k false n) ≡ toward k n
gives_next Later n = refl
gives_next Earlier n = refl
gives_next AndLater n = refl
gives_next AndEarlier n = refl

-- ---- A walker of kind k in the calendar c whose next day to give is g: it has that day to give, or it is ended and g lies past the end
data State (k : Kind) (c : Calendar) : ℤ → Walker → Type 0 where
  waits : {h : Date} → h.calendar ≡ c → Genuine h → Is32Bit (gives k h.jdn) → State k c (gives k h.jdn) (walker k h false)
  spent : {h : Date} {g : ℤ} → Genuine h → ¬ Is32Bit (toward k h.jdn) → Past k g → State k c g (walker k h true)

module _ (k : Kind) (c : Calendar) where
  -- what the next call gives
  given : {g : ℤ} {v : Walker} {m : Moved} → State k c g v → Steps v m → Unless (Is32Bit g) (refused 15 (pos 0)) (RecordOf c g) m.answer
  given (waits e h f) (refuses x) = absurd (x (record { date_genuine = h; flag_is = f }))
  given (waits e h f) (passes w (refuses t)) = absurd (not_both refl t)
  given (waits {h = b} e h f) (passes w (passes x (moves {d = d} r t u))) = passes f (record_of (subst (λ (a : Calendar). IsRecord a (gives k b.jdn) d) e r))
  given (spent h x p) (refuses y) = absurd (y (record { date_genuine = h; flag_is = x }))
  given {g} (spent h x p) (passes w (refuses t)) = refuses (past_off k g p)
  given (spent h x p) (passes w (passes y r)) = absurd (y refl)

  -- and the state after it
  next_state : {g : ℤ} {v : Walker} {m : Moved} → State k c g v → Steps v m → State k c (toward k g) m.walker
  next_state (waits e h f) (refuses x) = absurd (x (record { date_genuine = h; flag_is = f }))
  next_state (waits e h f) (passes w (refuses t)) = absurd (not_both refl t)
  next_state (waits {h = b} e h f) (passes w (passes x (moves {e = true} r t u))) =
      spent (record_genuine h.accepted u) (subst (λ (z : ℤ). ¬ Is32Bit (toward k z)) (sym u.day_is) t) (past_first k (gives k b.jdn) f t)
  next_state (waits {h = b} e h f) (passes w (passes x (moves {h = a} {e = false} r t u))) =
      let s : gives k a.jdn ≡ toward k (gives k b.jdn) = ap (gives k) u.day_is ∙ gives_next k (gives k b.jdn) in
      subst (λ (g : ℤ). State k c g (walker k a false)) s (waits (u.calendar_is ∙ e) (record_genuine h.accepted u) (subst Is32Bit (sym s) t))
  next_state (spent h x p) (refuses y) = absurd (y (record { date_genuine = h; flag_is = x }))
  next_state {g} (spent h x p) (passes w (refuses t)) = spent h x (past_on k g p)
  next_state (spent h x p) (passes w (passes y r)) = absurd (y refl)

  state_after : (n : ℤ) {w v : Walker} {i : ℕ} → State k c (day_of_call k n 1) w → Called w i v → State k c (day_of_call k n (suc i)) v
  state_after n s uncalled = s
  state_after n s (called {i = i} p {m = m} q) = subst (λ (g : ℤ). State k c g m.walker) (sym (call_next k n i)) (next_state (state_after n s p) q)

ended_first : (k : Kind) (n : ℤ) → Is32Bit n → ¬ Is32Bit (gives k n) → (¬ Is32Bit (toward k n)) × Past k (gives k n)
ended_first Later n f x = (x, suc_past n f x)
ended_first Earlier n f x = (x, pred_past n f x)
ended_first AndLater n f x = absurd (x f)
ended_first AndEarlier n f x = absurd (x f)

state_made : (k : Kind) (d : Date) {w : Walker} → Is32Bit d.jdn → Makes k d (Ok w) → State k d.calendar (day_of_call k d.jdn 1) w
state_made k d {w} f (passes g (made {e = true} x)) =
    let (y, p) = ended_first k d.jdn f x in
    subst (λ (z : ℤ). State k d.calendar z (walker k d true)) (sym (call_first k d.jdn)) (spent g y p)
state_made k d {w} f (passes g (made {e = false} x)) = subst (λ (z : ℤ). State k d.calendar z (walker k d false)) (sym (call_first k d.jdn)) (waits refl g x)

-- From day n the i-th call gives the record of n + i, n - i, n + i - 1, n - i + 1; past the ends of 32 bits each call is refused 15.
pub answer_of_call : (k : Kind) (d : Date) {w : Walker} → Is32Bit d.jdn → Makes k d (Ok w) → {i : ℕ} {a : Result Date Refusal} → Answer w i a → GivesDay k d i a
answer_of_call k d f m (answer p q) = given k d.calendar (state_after k d.calendar d.jdn (state_made k d f m) p) q

-- ---- The genuine walkers are those that are made from a genuine date, and those that they become by steps
pub data Given : Walker → Type 0 where
  by_making : {k : Kind} {d : Date} {w : Walker} → Is32Bit d.jdn → Makes k d (Ok w) → Given w
  by_step : {v : Walker} → Given v → {m : Moved} → Steps v m → Given m.walker

state_genuine : (k : Kind) (c : Calendar) {g : ℤ} {v : Walker} → State k c g v → GenuineWalker v
state_genuine k c (waits e h f) = record { date_genuine = h; flag_is = f }
state_genuine k c (spent h x p) = record { date_genuine = h; flag_is = x }

record Stands (v : Walker) : Type 0 where
  kind_of : Kind
  calendar_of : Calendar
  day_of : ℤ
  state_of : State kind_of calendar_of day_of v

stands : {w : Walker} → Given w → Stands w
stands (by_making {k = k} {d = d} f m) = record { kind_of = k; calendar_of = d.calendar; day_of = day_of_call k d.jdn 1; state_of = state_made k d f m }
stands (by_step g s) =
    let p = stands g in
    record { kind_of = p.kind_of; calendar_of = p.calendar_of; day_of = toward p.kind_of p.day_of; state_of = next_state p.kind_of p.calendar_of p.state_of s }

pub given_genuine : {w : Walker} → Given w → GenuineWalker w
given_genuine g = let p = stands g in state_genuine p.kind_of p.calendar_of p.state_of

pub genuine_given : (w : Walker) → Is32Bit w.date.jdn → GenuineWalker w → Given w
genuine_given w f g = by w.kind w.date w.ended f g.date_genuine g.flag_is
  where
    -- made on its day, it gives that day and is then ended
    one_step : (k : Kind) (d : Date) → Genuine d → gives k d.jdn ≡ d.jdn → Is32Bit d.jdn → ¬ Is32Bit (toward k d.jdn) → Given (walker k d true)
    one_step k d g s f x =
        let n = subst Is32Bit (sym s) f in
        let i = subst (λ (z : ℤ). IsRecord d.calendar z d) (sym s) g.is_record in
        by_step (by_making {k = k} f (passes g (made n)))
        (passes (record { date_genuine = g; flag_is = n }) (passes (not_both refl) (moves {d = d} {h = d} {e = true} i (subst (λ (z : ℤ). ¬ Is32Bit (toward k z)) (sym s) x) i)))

    by : (k : Kind) (d : Date) (e : Bool) → Is32Bit d.jdn → Genuine d → FlagAt k d.jdn e → Given (walker k d e)
    by k d false f g x = by_making {k = k} f (passes g (made x))
    by Later d true f g x = by_making {k = Later} f (passes g (made x))
    by Earlier d true f g x = by_making {k = Earlier} f (passes g (made x))
    by AndLater d true f g x = one_step AndLater d g refl f x
    by AndEarlier d true f g x = one_step AndEarlier d g refl f x
