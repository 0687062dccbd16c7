-- `unixtime::seconds::day_second` meets its promise.
use mathlib.Core.Path.{◌≡◌, refl, sym, ◌∙◌}
use Prim.Native.Nat.{◌-◌, ◌^◌}
use native.Mathlib.Omega.{arith}
use borrow.Author.Rules.{sfits_of}
use mir.Facts.{to_z-of_z}
use Rattle.whole.specs.Promise.{unbias}
use Rattle.unixtime.specs.Promise.{outside_32}
use Rattle.unixtime.specs.Laws.{time_below, time_above, biased_time, day_second_at}
use mir.Syntax.{w32, w64}
use Rattle.unixtime.proofs.seconds.day_second.Goals as goal
use Rattle.unixtime.proofs.seconds.day_second.Goals.{After-raised64-raised_time}

time_is : (c : After-raised64-raised_time) → unbias (2 ^ 63) c.raised64-raised_time.result ≡ c.args.t
time_is c = c.raised64-raised_time.ensures ∙ to_z-of_z {w = w64} c.ranges.t

pub returns-then-raised_time-lt-FIRST_SECOND : goal.returns-then-raised_time-lt-FIRST_SECOND
returns-then-raised_time-lt-FIRST_SECOND c =
    let a = (goal.at.returns-then-raised_time-lt-FIRST_SECOND c).After-raised64-raised_time in
    outside_32 (time_below a.raised64-raised_time.result (time_is a) (omega (arith, c.if-raised_time-lt-FIRST_SECOND.true)))

pub returns-then-elapsed-gt-LAST_ELAPSED : goal.returns-then-elapsed-gt-LAST_ELAPSED
returns-then-elapsed-gt-LAST_ELAPSED c =
    let a = (goal.at.returns-then-elapsed-gt-LAST_ELAPSED c).After-raised64-raised_time in
    outside_32 (time_above a.raised64-raised_time.result (time_is a) (omega (arith, c.if-elapsed-gt-LAST_ELAPSED.true, c.if-raised_time-lt-FIRST_SECOND.false)))

pub returns : goal.returns
returns c =
    let a = (goal.at.returns c).After-raised64-raised_time in
    let x = a.raised64-raised_time.result - 9_223_186_283_400_785_408 in
    day_second_at x (omega (arith, c.if-elapsed-gt-LAST_ELAPSED.false)) (biased_time a.raised64-raised_time.result x (omega (arith, c.if-raised_time-lt-FIRST_SECOND.false)) (time_is a)) (sym (to_z-of_z {w = w32} (sfits_of c.lowered.type_inv) ∙ c.lowered.ensures)) refl
