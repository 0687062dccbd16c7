-- `swedish::spot_on` meets its promise, era by era.
use mathlib.Core.Path.{◌≡◌, refl, sym, ◌∙◌, ap, subst}
use Prim.Native.Nat.{ℕ, ◌+◌, ◌<◌}
use native.Mathlib.Omega.{arith}
use Rattle.days.specs.DayByDay.{Swedish, labels, label_of, julian, Ordinal}
use Rattle.days.specs.BiasedDays.{day}
use Rattle.days.proofs.ClosedGregorian as G
use Rattle.days.proofs.SwedishMonths.{in_first, in_moved, in_leapt, in_again, in_reformed, ordinal_of_the_thirtieth}
use Rattle.inner.specs.Natural.{biased_day}
use Rattle.swedish.specs.Laws.{labelled_by}
use Rattle.swedish.proofs.spot_on.Goals as goal
use Rattle.swedish.proofs.spot_on.Goals.{Start}

abbrev biased : Start → ℕ
biased s = biased_day s.args.raised

room : (s : Start) → biased s < 1_000_000_000_000
room s = omega (arith, s.ranges.raised.fits)

pub labelled-requires : goal.labelled-requires
labelled-requires c =
    let s = (goal.at.labelled-requires c).Start in
    (room s, labelled_by G.starts (biased s) (biased s) c.gregorian_place-new.result.year c.gregorian_place-new.result.ordinal (in_reformed (biased s) c.if-biased-ge-REFORMED.true).0 c.gregorian_place-new.ensures c.is_gregorian_leap.ensures)

pub old_label-requires : goal.old_label-requires
old_label-requires c = let s = (goal.at.old_label-requires c).Start in (room s, (in_first (biased s) c.if-biased-lt-AHEAD.true).0)

pub old_label-requires-then-biased-lt-THIRTIETH : goal.old_label-requires-then-biased-lt-THIRTIETH
old_label-requires-then-biased-lt-THIRTIETH c =
    let s = (goal.at.old_label-requires-then-biased-lt-THIRTIETH c).Start in
    (room s, (in_moved (biased s) c.if-biased-lt-AHEAD.false c.if-biased-lt-THIRTIETH.true).0 ∙ ap (λ (i : ℕ). label_of julian (day i)) (next s.args.raised))
  where
    next : (x : ℕ) → x + 782_219_326_294 + 1 ≡ x + 1 + 782_219_326_294
    next x = omega arith

pub old_label-requires-then-biased-gt-THIRTIETH : goal.old_label-requires-then-biased-gt-THIRTIETH
old_label-requires-then-biased-gt-THIRTIETH c = let s = (goal.at.old_label-requires-then-biased-gt-THIRTIETH c).Start in (room s, (in_again (biased s) (omega (arith, c.if-biased-gt-THIRTIETH.true)) c.if-biased-ge-REFORMED.false).0)

pub returns : goal.returns
returns c =
    let s = (goal.at.returns c).Start in
    let e : biased s ≡ 784_369_156_367 = omega (arith, c.if-biased-lt-THIRTIETH.false, c.if-biased-gt-THIRTIETH.false) in
    record { biased_is = refl; label_is = (in_leapt (biased s) e).0; ordinal_is = subst (λ (k : ℕ). Ordinal (labels Swedish) (day k) 61) (sym e) ordinal_of_the_thirtieth }
