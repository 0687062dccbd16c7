-- The definitions tested by computing alone, near the known labels, where a reader can count along.
-- Assumes nothing.
use Rattle.std.specs.Prelude.{◌≡◌, refl, [], ◌∷◌, pos, negsuc}
use Rattle.std.proofs.Common.{◌∙◌}
use Rattle.days.specs.DayByDay.{label, label_of, stepping, next_label, prev_label, month_length, julian, julian_leap, gregorian, gregorian_leap, splice, JulianBy, counted, JulianStyle, GregorianStyle, julian_era, gregorian_era, Timeline, style_in, Reforming, labels, weekday, next_weekday, prev_weekday}

-- day 59 is 29 February -4712, day -1 is 31 December -4713, day -366 is 31 December -4714
leap_day : label_of julian (pos 59) ≡ label (negsuc 4711) 2 29
unfolding label_of stepping next_label month_length julian julian_leap
leap_day = refl

day_before : label_of julian (negsuc 0) ≡ label (negsuc 4712) 12 31
unfolding label_of stepping prev_label month_length julian julian_leap
day_before = refl

year_before : label_of julian (negsuc 365) ≡ label (negsuc 4713) 12 31
unfolding label_of stepping prev_label month_length julian julian_leap
year_before = refl

eve : label_of gregorian (pos 2_299_160) ≡ label (pos 1582) 10 14
unfolding label_of stepping prev_label month_length gregorian gregorian_leap
eve = refl

-- one day ahead, day 58 has the label of day 59, and one day behind day 60 has it
day_ahead : counted (JulianBy (pos 1)) (pos 58) ≡ label (negsuc 4711) 2 29
unfolding label_of stepping next_label month_length julian julian_leap
day_ahead = refl

day_behind : counted (JulianBy (negsuc 0)) (pos 60) ≡ label (negsuc 4711) 2 29
unfolding label_of stepping next_label month_length julian julian_leap
day_behind = refl

-- the first day of the reformed calendar of 1582 is 15 October, and not 5 October
first_gregorian : label_of gregorian (pos 2_299_161) ≡ label (pos 1582) 10 15
unfolding label_of stepping gregorian
first_gregorian = refl

already_gregorian : labels (Reforming (pos 2_299_161)) (pos 2_299_161) ≡ label_of gregorian (pos 2_299_161)
unfolding splice
already_gregorian = refl

first_of_the_reform : labels (Reforming (pos 2_299_161)) (pos 2_299_161) ≡ label (pos 1582) 10 15
first_of_the_reform = already_gregorian ∙ first_gregorian

-- a timeline of two switches, on days 10 and 20: each counts from its day on, up to the next
two_switches : Timeline
two_switches = record { before = julian_era; switches = record { on = pos 10; era = gregorian_era } ∷ record { on = pos 20; era = julian_era } ∷ [] }

last_day_before : style_in two_switches (pos 9) ≡ JulianStyle
unfolding splice two_switches
last_day_before = refl

from_the_first : style_in two_switches (pos 10) ≡ GregorianStyle
unfolding splice two_switches
from_the_first = refl

up_to_the_second : style_in two_switches (pos 19) ≡ GregorianStyle
unfolding splice two_switches
up_to_the_second = refl

from_the_second : style_in two_switches (pos 20) ≡ JulianStyle
unfolding splice two_switches
from_the_second = refl

-- day 0 is a Monday, day 6 a Sunday, and so is day -1
monday : weekday (pos 0) ≡ 1
unfolding weekday stepping
monday = refl

sunday : weekday (pos 6) ≡ 7
unfolding weekday stepping next_weekday
sunday = refl

sunday_before : weekday (negsuc 0) ≡ 7
unfolding weekday stepping prev_weekday
sunday_before = refl
