-- The Swedish calendar: its eras, the labels beside its four switches, and that it rises. At the two ends of 32 bits it is in one reckoning.
-- Assumes nothing.
use Rattle.std.specs.Prelude.{pos}
use Rattle.days.specs.DayByDay.{JulianBy, Thirtieth, SwedishStyle, Era, Timeline, Swedish, timeline}

abbrev pub sweden : Timeline
sweden = timeline Swedish

-- ---- The eras
abbrev pub moved_era : Era
moved_era = record { style = SwedishStyle; counts = JulianBy (pos 1) }

abbrev pub leap_era : Era
leap_era = record { style = SwedishStyle; counts = Thirtieth (pos 1712) }
