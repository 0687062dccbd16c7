-- `calendar::Calendar::reform_date` meets its promise.
use Rattle.refusals.specs.Passed.{passed_on}
use borrow.Author.Rules.{rules}
use mathlib.Core.Path.{◌≡◌, sym, ◌∙◌, ap, subst}
use Prim.Native.Nat.{ℕ, ◌-◌, ◌≤◌, ◌^◌}
use native.Mathlib.Omega.{arith}
use lib.IntN.{ℤ, pos, ◌-ℤ◌}
use mir.Syntax.{w32}
use mir.Val.{SFits}
use mir.Facts.{to_z-of_z}
use Rattle.whole.specs.Biased.{unbias_back}
use Rattle.whole.specs.Promise.{unbias}
use Rattle.days.specs.ClosedRuns.{Runs}
use Rattle.calendar.specs.Calendars.{definition_of, Accepted}
use Rattle.calendar.specs.Laws.{switch_runs, no_switch, reform_some}
use Rattle.calendar.specs.Natural.{SwitchIs}
use Rattle.calendar.specs.Promise.{ReformRecord, never_julian, never_gregorian, reform_record}
use Rattle.calendar.specs.Rows.{passes}
use Rattle.calendar.specs.declared.Calendar.TheVariants as Calendar'
use Rattle.calendar.specs.declared.Calendar.{Calendar}
use Rattle.calendar.proofs.Calendar.reform_date.Goals as goal
use Rattle.std.specs.Prelude.{Ok, Some, None}

accepts : (k : Calendar) {s : ℕ} {r : ℤ} → SwitchIs k (Ok s) → k ≡ Calendar'.Reforming r → Accepted (Calendar'.Reforming r)
accepts k p e = subst Accepted e (switch_runs k p).accepted

pub overflow_sub-raised : goal.overflow_sub-raised
overflow_sub-raised c =
    let f : SFits w32 c.in-Reforming.r = search rules in
    omega (arith, reform_some c.raised.result (accepts c.args.self c.in_ok-switch.ensures c.in-Reforming.is) (c.raised.ensures ∙ to_z-of_z f), c.requires)

pub on_day-requires : goal.on_day-requires
on_day-requires c =
    subst (λ (k : Calendar). Runs (definition_of k) c.in_ok-switch.switch) c.in-Reforming.is (switch_runs _ c.in_ok-switch.ensures)

pub returns-in_err-switch : goal.returns-in_err-switch
returns-in_err-switch c = rw (passed_on _ c.from_residual.ensures.1) (no_switch _ c.in_err-switch.ensures)

pub returns-in-Julian : goal.returns-in-Julian
returns-in-Julian c = passes (switch_runs _ c.in_ok-switch.ensures).accepted (subst (λ (k : Calendar). ReformRecord (pos c.args.before) k (Ok None)) (sym c.in-Julian.is) never_julian)

pub returns-in-Gregorian : goal.returns-in-Gregorian
returns-in-Gregorian c = passes (switch_runs _ c.in_ok-switch.ensures).accepted (subst (λ (k : Calendar). ReformRecord (pos c.args.before) k (Ok None)) (sym c.in-Gregorian.is) never_gregorian)

pub returns-in-Reforming : goal.returns-in-Reforming
returns-in-Reforming c =
    let f : SFits w32 c.in-Reforming.r = search rules in
    let g : SFits w32 c.lowered-jdn.result = record { sfits = c.lowered-jdn.type_inv } in
    let x = c.raised.result in
    let b = c.args.before in
    let h : b ≤ x = omega (arith, reform_some x (accepts c.args.self c.in_ok-switch.ensures c.in-Reforming.is) (c.raised.ensures ∙ to_z-of_z f), c.requires) in
    let e : c.in-Reforming.r -ℤ pos b ≡ unbias (2 ^ 31) (x - b) = ap (λ (z : ℤ). z -ℤ pos b) (sym (c.raised.ensures ∙ to_z-of_z f)) ∙ unbias_back (2 ^ 31) x b h in
    passes (switch_runs _ c.in_ok-switch.ensures).accepted
    (subst (λ (k : Calendar). ReformRecord (pos b) k (Ok (Some c.on_day.result))) (sym c.in-Reforming.is)
    (reform_record (rw e (rw (to_z-of_z g, c.lowered-jdn.ensures) at c.on_day.ensures))))
