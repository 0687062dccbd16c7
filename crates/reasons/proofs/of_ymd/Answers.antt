-- `reasons::of_ymd` meets its promise.
use mir.Facts.{to_z-of_z}
use Rattle.reasons.specs.Laws.{ymd_date, ymd_missing, ymd_skipped, ymd_outside, skipped_ymd}
use Rattle.days.specs.DayByDay.{label}
use Rattle.calendar.specs.Calendars.{Skipped}
use mir.Syntax.{w32}
use Rattle.reasons.proofs.of_ymd.Goals as goal
use Rattle.reasons.proofs.of_ymd.Goals.{Then-why-eq5}

skips : (c : Then-why-eq5) → Skipped c.args.calendar (label c.args.year c.args.month c.args.day)
skips c =
    ymd_skipped c.args.calendar c.requires.0 c.args.year c.args.month c.args.day c.args.place c.requires.1 (rw (to_z-of_z {w = w32} c.ranges.year) at c.in-Err.ensures) c.if-why-eq5.true

pub missing-requires : goal.missing-requires
missing-requires c =
    rw (to_z-of_z {w = w32} c.ranges.year) (c.requires.0, c.requires.1, ymd_missing c.args.calendar c.requires.0 c.args.year c.args.month c.args.day c.args.place c.requires.1 (rw (to_z-of_z {w = w32} c.ranges.year) at c.in-Err.ensures) c.if-why-eq4.true)

pub returns-then-why-eq4 : goal.returns-then-why-eq4
returns-then-why-eq4 c = rw (to_z-of_z {w = w32} c.ranges.year) at c.missing.ensures

pub skipped-requires : goal.skipped-requires
skipped-requires c =
    (c.requires.0, (_, skips (goal.at.skipped-requires c).Then-why-eq5))

pub returns-then-why-eq5 : goal.returns-then-why-eq5
returns-then-why-eq5 c = skipped_ymd (skips (goal.at.returns-then-why-eq5 c).Then-why-eq5) c.skipped.ensures

pub returns-in-Ok : goal.returns-in-Ok
returns-in-Ok c =
    rw c.accepted.ensures (ymd_date c.args.calendar c.requires.0 c.args.year c.args.month c.args.day c.args.place c.requires.1 (rw (to_z-of_z {w = w32} c.ranges.year) at c.in-Ok.ensures))

pub returns-else-why-eq5 : goal.returns-else-why-eq5
returns-else-why-eq5 c =
    rw c.outside.ensures (rw (to_z-of_z {w = w32} c.ranges.year) (ymd_outside c.args.calendar c.requires.0 c.args.year c.args.month c.args.day c.args.place c.requires.1 (rw (to_z-of_z {w = w32} c.ranges.year) at c.in-Err.ensures) c.if-why-eq4.false c.if-why-eq5.false))
