-- Two results that a promise allows for one input are equal: a theorem for each promise.
-- Assumes nothing.
use Rattle.std.specs.Prelude.{◌≡◌, Bool}
use Rattle.std.proofs.Common.{subst}
use Rattle.calendar.specs.declared.Date.{Date}
use Rattle.calendar.specs.Calendars.{IsRecord}
use Rattle.calendar.specs.RowLaws.{One, unless_one, if_one}
use Rattle.calendar.specs.One.{record_one}
use Rattle.ways.specs.declared.Kind.{Kind}
use Rattle.walker.specs.declared.Walker.{Walker}
use Rattle.ways.specs.One.{ended_one}
use Rattle.ways.specs.Promise.{gives, toward, holds}
use Rattle.walker.specs.Promise.{Made, made, Makes, Moves, moves, Steps}

made_one : (k : Kind) (d : Date) → One (Made k d)
made_one k d a b (made {e = e} p) (made {e = f} q) = let i : e ≡ f = ended_one (gives k d.jdn) e f p q in cc

pub makes_one : (k : Kind) (d : Date) → One (Makes k d)
makes_one k d = unless_one (λ g. made_one k d)

moves_one : (w : Walker) → One (Moves w)
moves_one w a b (moves {d = d} {h = h} {e = e} p i u) (moves {d = c} {h = g} {e = f} q j v) =
    let s : e ≡ f = ended_one (toward w.kind (gives w.kind w.date.jdn)) e f i j in
    let r : d ≡ c = record_one p q in
    let t : h ≡ g = record_one (subst (λ (e : Bool). IsRecord w.date.calendar (holds w.kind e (gives w.kind w.date.jdn)) h) s u) v in
    cc

pub steps_one : (w : Walker) → One (Steps w)
steps_one w = unless_one (λ g. if_one (λ n. moves_one w))
