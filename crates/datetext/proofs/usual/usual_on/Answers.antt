-- `datetext::usual::usual_on` meets its promise: each part that is found takes the text a step further, and the rest is read as any text is.
use mir.Facts.{to_z-of_z}
use mathlib.Core.Path.{sym, ◌∙◌}
use Rattle.datetext.specs.Usual.{if_at}
use Rattle.datetext.proofs.usual.usual_on.Goals as goal

pub usual_day-day-requires : goal.usual_day-day-requires
usual_day-day-requires c = (if_at c.in-Some.ensures).within

pub returns-then-day-lt100 : goal.returns-then-day-lt100
returns-then-day-lt100 c =
    rw (to_z-of_z c.ranges.year)
    (sym ((c.usual_day-day.ensures c.if-day-lt100.true).read c.args.year c.in-Some.month)
    ∙ sym ((if_at c.in-Some.ensures).read c.args.year))

pub returns-else-day-lt100 : goal.returns-else-day-lt100
returns-else-day-lt100 c = (rw (to_z-of_z c.ranges.year) at c.day_on.ensures) ∙ sym ((if_at c.in-Some.ensures).read c.args.year)
