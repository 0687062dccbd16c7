-- The known days that the scope document marks as to be proved, all under one statement about the definitions.
-- Assumes nothing.
use Rattle.std.specs.Prelude.{◌≡◌, ℕ, ℤ, pos, negsuc}
use Rattle.days.specs.DayByDay.{label, JulianStyle, SwedishStyle, Calendar, Julian, Gregorian, Reforming, Swedish, labels, style, Ordinal, DayOrdinal, YearLength, Skipped, Missing, weekday, UnixTime}

-- day n of the calendar c is of the year y and has the ordinal o
abbrev pub YearIs : Calendar → ℤ → ℤ → ℕ → Type 0
YearIs c n y o = ((labels c n).year ≡ y) × Ordinal (labels c) n o

-- day n of the calendar c is year y, month m, day d, and has the ordinal o
abbrev pub Dated : Calendar → ℤ → ℤ → ℕ → ℕ → ℕ → Type 0
Dated c n y m d o = (labels c n ≡ label y m d) × Ordinal (labels c) n o

pub record KnownDays : Type 0 where
  -- 0: Julian -4712 ordinal 1; Gregorian -4713 ordinal 328
  pub zero_julian : YearIs Julian (pos 0) (negsuc 4711) 1
  pub zero_gregorian : YearIs Gregorian (pos 0) (negsuc 4712) 328
  -- -2147483648: Julian -5884202-03-16 (75); Gregorian -5884323-05-15 (135)
  pub least_julian : Dated Julian (negsuc 2_147_483_647) (negsuc 5_884_201) 3 16 75
  pub least_gregorian : Dated Gregorian (negsuc 2_147_483_647) (negsuc 5_884_322) 5 15 135
  -- 2147483647: Julian 5874777-10-17 (290); Gregorian 5874898-06-03 (154)
  pub greatest_julian : Dated Julian (pos 2_147_483_647) (pos 5_874_777) 10 17 290
  pub greatest_gregorian : Dated Gregorian (pos 2_147_483_647) (pos 5_874_898) 6 3 154
  -- r = 2299161: 1582-10-04 ordinal 277, 1582-10-15 ordinal 278, length 355
  pub last_julian_1582 : Dated (Reforming (pos 2_299_161)) (pos 2_299_160) (pos 1582) 10 4 277
  pub first_gregorian_1582 : Dated (Reforming (pos 2_299_161)) (pos 2_299_161) (pos 1582) 10 15 278
  pub length_1582 : YearLength (labels (Reforming (pos 2_299_161))) (pos 1582) 355
  -- r = 1830692: 300-02-28, then 300-03-01 ordinal 60; 300-02-29 refused
  pub last_julian_300 : labels (Reforming (pos 1_830_692)) (pos 1_830_691) ≡ label (pos 300) 2 28
  pub first_gregorian_300 : Dated (Reforming (pos 1_830_692)) (pos 1_830_692) (pos 300) 3 1 60
  pub skipped_300 : Skipped (Reforming (pos 1_830_692)) (label (pos 300) 2 29)
  -- r = 2419403: 1911 has 352 days; 1912-01-01 ordinal 1
  pub length_1911 : YearLength (labels (Reforming (pos 2_419_403))) (pos 1911) 352
  pub first_gregorian_1912 : Dated (Reforming (pos 2_419_403)) (pos 2_419_403) (pos 1912) 1 1 1
  -- r = 2361222: 1752-09-14 ordinal 247, day ordinal 3
  pub first_gregorian_1752 : Dated (Reforming (pos 2_361_222)) (pos 2_361_222) (pos 1752) 9 14 247
  pub day_ordinal_1752 : DayOrdinal (labels (Reforming (pos 2_361_222))) (pos 2_361_222) 3
  -- r = 2419751: 1912-12-14 ordinal 336, day ordinal 1
  pub first_gregorian_december : Dated (Reforming (pos 2_419_751)) (pos 2_419_751) (pos 1912) 12 14 336
  pub day_ordinal_december : DayOrdinal (labels (Reforming (pos 2_419_751))) (pos 2_419_751) 1
  -- 2299161 is a Friday; t = -1 is day 2440587, 86399 s
  pub friday : weekday (pos 2_299_161) ≡ 5
  pub second_before_epoch : UnixTime (negsuc 0) (pos 2_440_587) 86_399

-- labels in a gap, or beside one: 29 February of a year that is leap in the Julian calendar alone, in no calendar, and 30 February
pub record KnownGaps : Type 0 where
  -- r = 2342032: 1700-02-18, then 1700-03-01
  pub skipped_1700 : Skipped (Reforming (pos 2_342_032)) (label (pos 1700) 2 29)
  pub missing_1700 : Missing (Reforming (pos 2_342_032)) (label (pos 1700) 2 30)
  -- r = 2361390: 1753-02-17, then 1753-03-01
  pub missing_1753 : Missing (Reforming (pos 2_361_390)) (label (pos 1753) 2 29)

-- Sweden at its four switches
pub record SwedishDays : Type 0 where
  -- 1700-02-28, then 1700-03-01
  pub last_1700 : labels Swedish (pos 2_342_041) ≡ label (pos 1700) 2 28
  pub first_1700 : labels Swedish (pos 2_342_042) ≡ label (pos 1700) 3 1
  -- 1712-02-29, 1712-02-30 ordinal 61, 1712-03-01
  pub before_1712 : labels Swedish (pos 2_346_424) ≡ label (pos 1712) 2 29
  pub thirtieth_1712 : Dated Swedish (pos 2_346_425) (pos 1712) 2 30 61
  pub after_1712 : labels Swedish (pos 2_346_426) ≡ label (pos 1712) 3 1
  -- 1753-02-17, then 1753-03-01
  pub last_1753 : labels Swedish (pos 2_361_389) ≡ label (pos 1753) 2 17
  pub first_1753 : labels Swedish (pos 2_361_390) ≡ label (pos 1753) 3 1
  -- the Swedish style on the days 2342042 to 2346425
  pub style_before : style Swedish (pos 2_342_041) ≡ JulianStyle
  pub style_from : style Swedish (pos 2_342_042) ≡ SwedishStyle
  pub style_to : style Swedish (pos 2_346_425) ≡ SwedishStyle
  pub style_after : style Swedish (pos 2_346_426) ≡ JulianStyle
  -- 1700 has 365 days, 1712 has 367, 1753 has 354
  pub length_1700 : YearLength (labels Swedish) (pos 1700) 365
  pub length_1712 : YearLength (labels Swedish) (pos 1712) 367
  pub length_1753 : YearLength (labels Swedish) (pos 1753) 354
  -- 1700-02-29 and 1753-02-18 to 28 are skipped, and what is neither Julian nor Gregorian is missing
  pub skipped_1700 : Skipped Swedish (label (pos 1700) 2 29)
  pub missing_1700 : Missing Swedish (label (pos 1700) 2 30)
  pub missing_1712 : Missing Swedish (label (pos 1712) 2 31)
  pub skipped_first_1753 : Skipped Swedish (label (pos 1753) 2 18)
  pub skipped_last_1753 : Skipped Swedish (label (pos 1753) 2 28)
  pub missing_1753 : Missing Swedish (label (pos 1753) 2 29)

-- three days that have names, by their Gregorian dates: the first of the reformed calendar, day 0 of Unix time, and the day before year 1
pub record NamedDays (reform1582 unix_epoch rata_die_zero : ℤ) : Type 0 where
  pub first_reformed : labels Gregorian reform1582 ≡ label (pos 1582) 10 15
  pub first_of_1970 : labels Gregorian unix_epoch ≡ label (pos 1970) 1 1
  pub last_of_0 : labels Gregorian rata_die_zero ≡ label (pos 0) 12 31
