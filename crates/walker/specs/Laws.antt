-- From the answers of the calendar, and from what a step does on day numbers, to the promises.
-- Assumes nothing.
use Rattle.std.specs.Prelude.{◌≡◌, refl, Bool, true, false, ℤ, Result, Ok, Err, Some}
use Rattle.std.specs.Result.{result_unwrap_or}
use Rattle.std.proofs.Common.{sym, subst}
use Rattle.calendar.specs.declared.Calendar.{Calendar}
use Rattle.calendar.specs.declared.Date.{Date}
use Rattle.refusals.specs.declared.Refusal.{Refusal}
use Rattle.calendar.specs.Calendars.{Accepted, IsRecord, Genuine}
use Rattle.calendar.specs.Rows.{refuses, passes}
use Rattle.calendar.specs.Promise.{record_of, AtJdn, Next}
use Rattle.calendar.specs.InMonth.{NextInMonth, near_fits, near_next}
use Rattle.days.specs.DayByDay.{Is32Bit}
use Rattle.ways.specs.declared.Kind.{Kind}
use Rattle.ways.specs.declared.Kind.TheVariants.{Later, Earlier, AndLater, AndEarlier}
use Rattle.ways.specs.declared.Given.{Given}
use Rattle.ways.specs.declared.NoStep.{NoStep}
use Rattle.ways.specs.declared.NoStep.TheVariants as NoStep'
use Rattle.ways.specs.Promise.{goes_later_value, toward, gives_held_value, EndedAt, FlagAt, NextStep, made_up, ended, goes}
use Rattle.ways.specs.Laws.{ahead_is, gives_held, gives_ahead, not_both}
use Rattle.walker.specs.declared.Walker.{Walker}
use Rattle.walker.specs.declared.Moved.{Moved}
use Rattle.walker.specs.Promise.{GenuineWalker, walker, moved, unmoved, Moves, moves, Steps}
use Rattle.walker.specs.Private.{Gave, gave}

-- ---- Records
-- an accepted calendar has the record of each day, so the other one is never taken
pub is_given : {c : Calendar} {n : ℤ} {a : Result Date Refusal} → Accepted c → AtJdn c n a → (other : Date) → IsRecord c n (result_unwrap_or a other)
is_given a (refuses x) other = absurd (x a)
is_given a (passes b (record_of i)) other = i

-- ---- The rows of a step
module _ (w : Walker) where
  abbrev OfStep : Bool → Result Given NoStep → Type 0
  OfStep = NextStep w.kind w.date.jdn

  pub date_made_up : ¬ Genuine w.date → Steps w (unmoved 16 w)
  date_made_up x = refuses (λ g. x g.date_genuine)

  pub flag_made_up : {e : Bool} → w.ended ≡ e → OfStep e (Err NoStep'.MadeUp) → Steps w (unmoved 16 w)
  flag_made_up s (made_up x) = refuses (λ g. x (subst (FlagAt w.kind w.date.jdn) s g.flag_is))

  module _ (g : Genuine w.date) where
    genuine_walker : {e : Bool} → w.ended ≡ e → FlagAt w.kind w.date.jdn e → GenuineWalker w
    genuine_walker s l = record { date_genuine = g; flag_is = subst (FlagAt w.kind w.date.jdn) (sym s) l }

    pub step_ended : {e : Bool} → w.ended ≡ e → OfStep e (Err NoStep'.Ended) → Steps w (unmoved 15 w)
    step_ended s (ended l) = passes (genuine_walker s l) (refuses s)

    pub step_gives : {e : Bool} → w.ended ≡ e → {t : Given} {v : Moved} → OfStep e (Ok t) → Gave w.kind w.date.calendar t v → Steps w v
    step_gives s (goes l t) (gave r u) = passes (genuine_walker s l) (passes (not_both s) (moves r t u))

-- ---- A step to the next date of the month
module _ (w : Walker) (s : w.ended ≡ false) {n : Date} where
  found : NextInMonth (goes_later_value w.kind) w.date (Some n) → Genuine w.date × Is32Bit (toward w.kind w.date.jdn) × IsRecord w.date.calendar (toward w.kind w.date.jdn) n
  found p = of_next (subst (λ (z : ℤ). Next w.date z (Ok n)) (ahead_is w.kind w.date.jdn) (near_next (goes_later_value w.kind) p))
    where
      of_next : {z : ℤ} → Next w.date z (Ok n) → Genuine w.date × Is32Bit z × IsRecord w.date.calendar z n
      of_next (passes g (passes f (record_of i))) = (g, f, i)

  -- the day that was held is given, or the next one
  pub gives_first : gives_held_value w.kind ≡ true → NextInMonth (goes_later_value w.kind) w.date (Some n) → Steps w (moved (Ok w.date) (walker w.kind n false))
  gives_first e p =
      let (g, t, i) = found p in
      passes (record { date_genuine = g; flag_is = subst (FlagAt w.kind w.date.jdn) (sym s) (subst Is32Bit (sym (gives_held w.kind w.date.jdn e)) (near_fits (goes_later_value w.kind) p)) })
      (passes (not_both s) (held w.kind e g t i))
    where
      held : (k : Kind) → gives_held_value k ≡ true → Genuine w.date → Is32Bit (toward k w.date.jdn) → IsRecord w.date.calendar (toward k w.date.jdn) n → Moves (walker k w.date w.ended) (moved (Ok w.date) (walker k n false))
      held Later e g t i = absurd (never e)
        where
          never : ◌≡◌ {A = Bool} false true → ⊥
          never z = not_both refl z
      held Earlier e g t i = absurd (never e)
        where
          never : ◌≡◌ {A = Bool} false true → ⊥
          never z = not_both refl z
      held AndLater e g t i = moves g.is_record t i
      held AndEarlier e g t i = moves g.is_record t i

  pub gives_next : {e : Bool} → gives_held_value w.kind ≡ false → EndedAt (toward w.kind n.jdn) e → NextInMonth (goes_later_value w.kind) w.date (Some n) → Steps w (moved (Ok n) (walker w.kind n e))
  gives_next {e} h l p =
      let (g, t, i) = found p in
      passes (record { date_genuine = g; flag_is = subst (FlagAt w.kind w.date.jdn) (sym s) (subst Is32Bit (sym (gives_ahead w.kind w.date.jdn h)) t) })
      (passes (not_both s) (ahead w.kind e h (subst (λ (z : ℤ). EndedAt (toward w.kind z) e) i.day_is l) i))
    where
      ahead : (k : Kind) (e : Bool) → gives_held_value k ≡ false → EndedAt (toward k (toward k w.date.jdn)) e → IsRecord w.date.calendar (toward k w.date.jdn) n → Moves (walker k w.date w.ended) (moved (Ok n) (walker k n e))
      ahead Later true h l i = moves i l i
      ahead Later false h l i = moves i l i
      ahead Earlier true h l i = moves i l i
      ahead Earlier false h l i = moves i l i
      ahead AndLater e h l i = absurd (not_both h refl)
      ahead AndEarlier e h l i = absurd (not_both h refl)
